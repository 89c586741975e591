use borrow.Author.Rules.{rules}
use Rattle.command_ends.proofs.Heads.{tdb_put, tdt_put}
use Rattle.command_ends.proofs.put_system_name.Goals as goal

pub returns-then-system-eq1-clause-written : goal.returns-then-system-eq1-clause-written
returns-then-system-eq1-clause-written c = search (tdb_put, rules)

pub returns-clause-written : goal.returns-clause-written
returns-clause-written c = search (tdt_put, rules)
