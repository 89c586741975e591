use borrow.Author.Rules.{rules}
use Rattle.command_jumps.proofs.Jumps.{row_to_next, row_reached}
use Rattle.command_jumps.proofs.reached.Goals as goal

pub time_on-requires : goal.time_on-requires
time_on-requires c = search (row_to_next, rules)

pub returns : goal.returns
returns c = search (row_reached, rules)
