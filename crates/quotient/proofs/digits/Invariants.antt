use Rattle.quotient.specs.Steps.{Raised, dividend, lowered}
use Rattle.quotient.proofs.Turns.{Turn}
use Rattle.quotient.proofs.digits.Given as goal

abbrev pub invariant-loop-k : goal.invariant-loop-k
invariant-loop-k l = Raised l.d l.y × Turn l.d (dividend l.d l.rest l.word l.known) (lowered l.d l.y) l.w l._k
