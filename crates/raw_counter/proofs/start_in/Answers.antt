use Rattle.std.proofs.lemmas.Result.{err_from_is_err_and}
use Rattle.raw_counter.proofs.Calls.{reset_listed, reset_accepted, reset_refused}
use Rattle.raw_counter.proofs.start_in.Goals as goal

pub returns-in_err-accept_stamps : goal.returns-in_err-accept_stamps
returns-in_err-accept_stamps c = let p = err_from_is_err_and c.from_residual.result c.from_residual.ensures.1 in rw (p.1, p.2) (reset_refused _ _ _ c.measure.ensures _ c.accept_stamps.ensures _ c.in_err-accept_stamps.was _)

pub start_of-requires : goal.start_of-requires
start_of-requires c = reset_listed _ _ _ c.measure.ensures _ c.accept_stamps.ensures _ c.in_ok-accept_stamps.was

pub returns : goal.returns
returns c = reset_accepted _ _ _ c.measure.ensures _ c.accept_stamps.ensures _ c.in_ok-accept_stamps.was _ _ c.start_of.ensures
