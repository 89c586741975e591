use borrow.Author.Rules.{rules}
use Rattle.command_ends.proofs.Heads.{clock_room, clock_put, clock_short}
use Rattle.command_ends.proofs.put_clock.Goals as goal

pub returns-clause-written : goal.returns-clause-written
returns-clause-written c = search (clock_put, rules)

pub returns-clause-upper_bound : goal.returns-clause-upper_bound
returns-clause-upper_bound c = search (clock_short, rules)

pub put_time-requires : goal.put_time-requires
put_time-requires c = search (clock_room, rules)
