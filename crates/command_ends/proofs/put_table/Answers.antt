use borrow.Author.Rules.{rules}
use Rattle.command_ends.proofs.Tails.{table_put}
use Rattle.command_ends.proofs.put_table.Goals as goal

pub returns-clause-written : goal.returns-clause-written
returns-clause-written c = search (table_put, rules)
