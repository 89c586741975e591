use Rattle.accepted_calls.proofs.Calls.{count_is}
use borrow.Author.Rules.{rules}
use Rattle.accepted_calls.proofs.time_count.Goals as goal

pub returns : goal.returns
returns c = search (count_is, rules)
