use Rattle.std.proofs.lemmas.Result.{err_from_is_err_and}
use Rattle.time.proofs.Calls.{count_refused, count_accepted, numbers, rows}
use borrow.Author.Rules.{rules}
use Rattle.time.proofs.count_at.Goals as goal

pub returns-in_err-b : goal.returns-in_err-b
returns-in_err-b c = let p = err_from_is_err_and c.from_residual.result c.from_residual.ensures.1 in rw (p.1, p.2) (count_refused _ _ c.measure.ensures _ _ _ c.accept.ensures c.in_err-b.field-0.0 _ c.in_err-b.was)

pub count_within-requires-clause-basis_facts : goal.count_within-requires-clause-basis_facts
count_within-requires-clause-basis_facts c = numbers _ _ c.measure.ensures _ _ _ c.accept.ensures c.in_ok-b.b c.in_ok-b.was

pub count_within-requires-clause-segments_facts : goal.count_within-requires-clause-segments_facts
count_within-requires-clause-segments_facts c = rows _ _ c.measure.ensures _ _ _ c.accept.ensures c.in_ok-b.b c.in_ok-b.was

pub returns : goal.returns
returns c = search (count_accepted _ _ c.measure.ensures _ _ _ c.accept.ensures c.in_ok-b.b c.in_ok-b.was, rules)
