use Rattle.succession_rules.specs.Kept.{further_above}
use Rattle.succession_rows.proofs.Scanned.{HeldTo}
use Rattle.succession_rows.proofs.further_low.Given as goal

abbrev pub invariant-loop-i : goal.invariant-loop-i
invariant-loop-i l = HeldTo (further_above l.total l.kept l.counts) l.i
