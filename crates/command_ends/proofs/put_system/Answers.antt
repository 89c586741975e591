use borrow.Author.Rules.{rules}
use Rattle.command_ends.proofs.Heads.{system_put}
use Rattle.command_ends.proofs.put_system.Goals as goal

pub returns-clause-written : goal.returns-clause-written
returns-clause-written c = search (system_put, rules)
