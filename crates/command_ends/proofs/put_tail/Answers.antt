use borrow.Author.Rules.{rules}
use Rattle.command_ends.proofs.Tails.{tail_put}
use Rattle.command_ends.proofs.put_tail.Goals as goal

pub returns-clause-written : goal.returns-clause-written
returns-clause-written c = search (tail_put, rules)
