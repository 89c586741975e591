use lib.Bits.{and_mask}
use Rattle.quotient.specs.Steps.{digit_at}
use Rattle.quotient.proofs.bit.Goals as goal

pub returns : goal.returns
unfolding digit_at
returns c = and_mask _ 1
