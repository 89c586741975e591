use Rattle.std.proofs.lemmas.Result.{err_from_is_err_and}
use borrow.Author.Rules.{rules}
use Rattle.text.proofs.Calls.{some_fields, few_fields, stamp_layout, stamp_listed, stamp_refused, stamp_accepted}
use Rattle.text.proofs.read_stamp.Goals as goal

pub returns-in_err-accept_stamps : goal.returns-in_err-accept_stamps
returns-in_err-accept_stamps c = let p = err_from_is_err_and c.from_residual.result c.from_residual.ensures.1 in rw (p.1, p.2) (stamp_refused _ _ c.measure.ensures _ _ c.accept_stamps.ensures _ _ c.in_err-accept_stamps.was)

pub stamp_in-requires-clause-le_n : goal.stamp_in-requires-clause-le_n
stamp_in-requires-clause-le_n c =
    let f = stamp_layout _ _ c.measure.ensures _ _ c.accept_stamps.ensures _ c.in_ok-accept_stamps.was in (search (some_fields, f, rules), search (few_fields, f, rules), search (few_fields, f, rules))

pub stamp_in-requires-clause-listed : goal.stamp_in-requires-clause-listed
stamp_in-requires-clause-listed c = stamp_listed _ _ c.measure.ensures _ _ c.accept_stamps.ensures _ c.in_ok-accept_stamps.was

pub returns : goal.returns
returns c = search (stamp_accepted, c.in_ok-accept_stamps.was, rules)
