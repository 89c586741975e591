use Rattle.segments.proofs.Steps.{NoneTo}
use Rattle.segments.proofs.steps_back.Given as goal

abbrev pub invariant-loop-i : goal.invariant-loop-i
invariant-loop-i l = NoneTo l.unit l.counts l.times l.rates l.i l.row
