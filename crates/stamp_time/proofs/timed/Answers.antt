use Rattle.std.proofs.lemmas.Result.{err_from_is_err_and}
use Rattle.stamp_time.proofs.Composed.{segments_out, rows, time_out, time_given}
use borrow.Author.Rules.{rules}
use Rattle.stamp_time.proofs.timed.Goals as goal

pub returns-in_err-check : goal.returns-in_err-check
returns-in_err-check c = let p = err_from_is_err_and c.from_residual.result c.from_residual.ensures.1 in rw (p.1, p.2) (segments_out _ _ _ _ _ c.check.ensures _ c.in_err-check.was)

pub time_within-requires-clause-segments_facts : goal.time_within-requires-clause-segments_facts
time_within-requires-clause-segments_facts c = rows _ _ _ 0 _ c.check.ensures c.in_ok-check.was

pub returns-in_err-t : goal.returns-in_err-t
returns-in_err-t c =
    let p = err_from_is_err_and c.from_residual-in_err-t.result c.from_residual-in_err-t.ensures.1 in
    rw (p.1, p.2) (time_out _ _ _ _ _ c.check.ensures c.in_ok-check.was _ c.time_within.ensures _ c.in_err-t.was)

pub returns : goal.returns
returns c = search (time_given, c.in_ok-check.was, c.in_ok-t.was, rules)
