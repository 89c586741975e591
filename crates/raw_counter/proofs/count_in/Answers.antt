use Rattle.std.proofs.lemmas.Result.{err_from_is_err_and}
use Rattle.raw_counter.proofs.Calls.{read_accepted, read_refused}
use Rattle.raw_counter.proofs.count_in.Goals as goal

pub returns-in_err-b : goal.returns-in_err-b
returns-in_err-b c = let p = err_from_is_err_and c.from_residual.result c.from_residual.ensures.1 in rw (p.1, p.2) (read_refused _ _ _ c.measure.ensures _ c.accept_stamps.ensures _ c.in_err-b.was _ _)

pub returns : goal.returns
returns c = read_accepted _ _ _ c.measure.ensures _ c.accept_stamps.ensures _ c.in_ok-b.was _ _ _ c.count_of.ensures
