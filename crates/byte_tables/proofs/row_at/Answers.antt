use borrow.Author.Rules.{rules}
use Rattle.byte_tables.proofs.Given.{count_there, time_there, rate_there, row_is}
use Rattle.byte_tables.proofs.row_at.Goals as goal

pub number_at-requires : goal.number_at-requires
number_at-requires c = search (count_there, rules)

pub time_at-requires : goal.time_at-requires
time_at-requires c = search (time_there, rules)

pub number_at-requires-2 : goal.number_at-requires-2
number_at-requires-2 c = search (rate_there, rules)

pub returns : goal.returns
returns c = search (row_is, rules)
