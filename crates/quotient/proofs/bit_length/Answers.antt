use lib.Count.{leading_le}
use Rattle.quotient.proofs.Zeros.{bit_length}
use Rattle.quotient.proofs.bit_length.Goals as goal

pub overflow_sub-result : goal.overflow_sub-result
overflow_sub-result c = leading_le 64 c.args.x

pub returns : goal.returns
returns c = bit_length c.args.x (search)
