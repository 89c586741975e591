use Rattle.kernel_numbers.proofs.Steps.{digit_none, digit_behind, digit_in, digit_full}
use Rattle.kernel_numbers.proofs.with_digit.Goals as goal

pub returns-in_err-k : goal.returns-in_err-k
returns-in_err-k c = rw c.from_residual.ensures (digit_none _ _ c.in_err-k.was)

pub returns-then-k-ne0 : goal.returns-then-k-ne0
returns-then-k-ne0 c = digit_behind _ _ c.in_ok-k.k c.in_ok-k.was _ c.if-k-ne0.true c.with_digit_beyond.ensures

pub returns-in-Some : goal.returns-in-Some
returns-in-Some c = digit_in _ _ c.in_ok-k.k c.in_ok-k.was _ _ c.if-k-ne0.false c.appended.ensures c.in-Some.is

pub returns-in-None : goal.returns-in-None
returns-in-None c = digit_full _ _ c.in_ok-k.k c.in_ok-k.was _ _ c.if-k-ne0.false c.appended.ensures c.in-None.is c.with_digit_beyond-in-None.ensures
