use Rattle.rules.specs.Segments.{segments}
use Rattle.succession_rules.specs.Kept.{segment_kept}
use Rattle.succession_rows.proofs.Scanned.{HeldTo}
use Rattle.succession_rows.proofs.shared_rows.Given as goal

abbrev pub invariant-loop-i : goal.invariant-loop-i
invariant-loop-i l = HeldTo (segment_kept (segments l.older_counts l.older_times l.older_rates) (segments l.counts l.times l.rates)) l.i
