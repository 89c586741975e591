use Rattle.encode.proofs.Sums.{Passed}
use Rattle.encode.proofs.encode_first.Given as goal

abbrev pub invariant-loop-i : goal.invariant-loop-i
invariant-loop-i l = Passed l.starts l.ends l.count l.i l.before
