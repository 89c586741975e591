use borrow.Author.Rules.{rules}
use Rattle.command_ends.proofs.Heads.{field_put}
use Rattle.command_ends.proofs.put_field.Goals as goal

pub returns-clause-written : goal.returns-clause-written
returns-clause-written c = search (field_put, rules)
