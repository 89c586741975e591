use mathlib.Core.Path.{◌≡◌}
use Rattle.rules.specs.Partitions.{lengths_before}
use Rattle.c_rules.specs.Tables.{partitions_from}
use Rattle.byte_stamps.proofs.partition.lengths_before.Given as goal

abbrev pub invariant-loop-i : goal.invariant-loop-i
invariant-loop-i l = l.before ≡ lengths_before (partitions_from l.starts l.ends) l.i
