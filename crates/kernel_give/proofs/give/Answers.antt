use Rattle.std.proofs.lemmas.Result.{err_from_is_err_and}
use Rattle.kernel_give.proofs.Given.{give_refused, give_short, give_read}
use Rattle.kernel_give.proofs.give.Goals as goal

pub returns-in_err-k : goal.returns-in_err-k
returns-in_err-k c = let p = err_from_is_err_and c.from_residual.result c.from_residual.ensures.1 in rw (p.1, p.2) (give_refused _ _ c.check.result c.check.ensures c.in_err-k.field-0.0 c.in_err-k.was)

pub returns-then-hand_out : goal.returns-then-hand_out
returns-then-hand_out c = give_read _ _ c.check.result c.check.ensures c.in_ok-k.k c.in_ok-k.was _ _ c.hand_out.ensures.value c.if-hand_out.true
    c.hand_out.ensures.torates_after

pub returns-else-hand_out : goal.returns-else-hand_out
returns-else-hand_out c = give_short _ _ c.check.result c.check.ensures c.in_ok-k.k c.in_ok-k.was _ _ c.hand_out.ensures.value c.if-hand_out.false
    c.hand_out.ensures.torates_after
