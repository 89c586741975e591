use borrow.Author.Rules.{rules}
use Rattle.command_ends.proofs.Heads.{titled_room, titled_put, titled_short}
use Rattle.command_ends.proofs.put_titled.Goals as goal

pub returns-clause-written : goal.returns-clause-written
returns-clause-written c = search (titled_put, rules)

pub returns-clause-upper_bound : goal.returns-clause-upper_bound
returns-clause-upper_bound c = search (titled_short, rules)

pub put_number-requires : goal.put_number-requires
put_number-requires c = search (titled_room, rules)
