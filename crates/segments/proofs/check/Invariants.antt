use Rattle.segments.proofs.Checked.{RowsTo}
use Rattle.segments.proofs.check.Given as goal

abbrev pub invariant-loop-i : goal.invariant-loop-i
invariant-loop-i l = RowsTo l.unit l.total l.counts l.times l.rates l.i
