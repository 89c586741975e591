use Rattle.rules.specs.Partitions.{partitions}
use Rattle.succession_rules.specs.Kept.{partition_kept}
use Rattle.succession_rows.proofs.Scanned.{HeldTo}
use Rattle.succession_rows.proofs.kept_partitions.Given as goal

abbrev pub invariant-loop-i : goal.invariant-loop-i
invariant-loop-i l = HeldTo (partition_kept (partitions l.older_starts l.older_ends) (partitions l.starts l.ends)) l.i
