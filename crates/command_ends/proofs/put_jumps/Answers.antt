use borrow.Author.Rules.{rules}
use Rattle.command_ends.proofs.Tails.{jumps_put}
use Rattle.command_ends.proofs.put_jumps.Goals as goal

pub returns-clause-written : goal.returns-clause-written
returns-clause-written c = search (jumps_put, rules)
