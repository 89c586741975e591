use Rattle.std.proofs.lemmas.Result.{err_from_is_err_and}
use Rattle.accepted_calls.proofs.Calls.{table_listed, stamp_out, stamp_timed}
use borrow.Author.Rules.{rules}
use Rattle.accepted_calls.proofs.stamp_time.Goals as goal

pub stamp_in-requires-clause-le_n : goal.stamp_in-requires-clause-le_n
stamp_in-requires-clause-le_n c = (search rules, search rules, search rules)

pub stamp_in-requires-clause-listed : goal.stamp_in-requires-clause-listed
stamp_in-requires-clause-listed c = search (table_listed, rules)

pub returns-in_err-r : goal.returns-in_err-r
returns-in_err-r c = let p = err_from_is_err_and c.from_residual.result c.from_residual.ensures.1 in rw (p.1, p.2) (stamp_out _ _ _ _ c.requires _ _ c.stamp_in.ensures _ c.in_err-r.was)

pub returns : goal.returns
returns c = stamp_timed _ _ _ _ c.requires _ _ c.stamp_in.ensures _ _ c.in_ok-r.was c.timed.ensures
