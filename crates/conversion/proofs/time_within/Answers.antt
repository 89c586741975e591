use borrow.Author.Rules.{rules}
use Rattle.conversion.proofs.Conversions.{counts_grow, beyond_total, before_first, count_in_lists, row_to_time, time_is}
use Rattle.conversion.proofs.time_within.Goals as goal

pub returns-then-total-e : goal.returns-then-total-e
returns-then-total-e c = search (beyond_total, rules)

pub row_of_count-requires : goal.row_of_count-requires
row_of_count-requires c = search (counts_grow, rules)

pub row_at-requires : goal.row_at-requires
row_at-requires c = search (count_in_lists, rules)

pub time_of_row-requires : goal.time_of_row-requires
time_of_row-requires c = search (row_to_time, rules)

pub returns : goal.returns
returns c = search (time_is, rules)

pub returns-in_default : goal.returns-in_default
returns-in_default c = search (before_first, rules)
