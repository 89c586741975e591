use Rattle.std.proofs.lemmas.Result.{err_from_is_err_and}
use Rattle.text.proofs.Calls.{some_fields, few_fields, stamp_layout, stamp_listed}
use Rattle.stamp_time.proofs.Composed.{tables_out, reading_out, stamp_timed, numbers}
use borrow.Author.Rules.{rules}
use Rattle.stamp_time.proofs.time_of_stamp.Goals as goal

pub returns-in_err-b : goal.returns-in_err-b
returns-in_err-b c = let p = err_from_is_err_and c.from_residual.result c.from_residual.ensures.1 in rw (p.1, p.2) (tables_out _ _ _ _ _ c.measure.ensures _ c.accept_stamps.ensures _ c.in_err-b.was)

pub stamp_in-requires-clause-le_n : goal.stamp_in-requires-clause-le_n
stamp_in-requires-clause-le_n c =
    let f = stamp_layout _ _ c.measure.ensures _ _ c.accept_stamps.ensures _ c.in_ok-b.was in (search (some_fields, f, rules), search (few_fields, f, rules), search (few_fields, f, rules))

pub stamp_in-requires-clause-listed : goal.stamp_in-requires-clause-listed
stamp_in-requires-clause-listed c = stamp_listed _ _ c.measure.ensures _ _ c.accept_stamps.ensures _ c.in_ok-b.was

pub returns-in_err-reading : goal.returns-in_err-reading
returns-in_err-reading c =
    let p = err_from_is_err_and c.from_residual-in_err-reading.result c.from_residual-in_err-reading.ensures.1 in
    rw (p.1, p.2) (reading_out _ _ _ _ _ c.measure.ensures _ c.accept_stamps.ensures _ c.in_ok-b.was _ c.stamp_in.ensures _ c.in_err-reading.was)

pub timed-requires : goal.timed-requires
timed-requires c = search (numbers, c.in_ok-b.was, rules)

pub returns : goal.returns
returns c = stamp_timed _ _ _ _ _ c.measure.ensures _ c.accept_stamps.ensures _ c.in_ok-b.was _ c.stamp_in.ensures _ _ c.in_ok-reading.was c.timed.ensures
