use borrow.Author.Rules.{rules}
use Rattle.command_ends.proofs.Heads.{delimiter_put}
use Rattle.command_ends.proofs.put_delimiter.Goals as goal

pub returns-clause-written : goal.returns-clause-written
returns-clause-written c = search (delimiter_put, rules)
