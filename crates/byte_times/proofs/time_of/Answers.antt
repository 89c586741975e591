use Rattle.std.proofs.lemmas.Result.{err_from_is_err_and}
use Rattle.time.proofs.Calls.{time_refused, time_accepted, numbers, rows}
use Rattle.byte_times.proofs.time_of.Goals as goal

pub returns-in_err-b : goal.returns-in_err-b
returns-in_err-b c = let p = err_from_is_err_and c.from_residual.result c.from_residual.ensures.1 in rw (p.1, p.2) (time_refused _ _ c.measure_of.ensures _ _ _ c.accept.ensures c.in_err-b.field-0.0 _ c.in_err-b.was)

pub time_within-requires-clause-basis_facts : goal.time_within-requires-clause-basis_facts
time_within-requires-clause-basis_facts c = numbers _ _ c.measure_of.ensures _ _ _ c.accept.ensures c.in_ok-b.b c.in_ok-b.was

pub time_within-requires-clause-segments_facts : goal.time_within-requires-clause-segments_facts
time_within-requires-clause-segments_facts c = rows _ _ c.measure_of.ensures _ _ _ c.accept.ensures c.in_ok-b.b c.in_ok-b.was

pub returns : goal.returns
returns c = time_accepted _ _ c.measure_of.ensures _ _ _ c.accept.ensures c.in_ok-b.b c.in_ok-b.was _ _ c.time_within.ensures
