use borrow.Author.Rules.{rules}
use Rattle.conversion.proofs.Conversions.{counts_grow, beyond_total, before_first, count_in_lists, row_to_time, time_is}
use Rattle.byte_times.proofs.time_within.Goals as goal

pub returns-then-total-e : goal.returns-then-total-e
returns-then-total-e c = search (beyond_total, rules)

pub row_of_count-requires : goal.row_of_count-requires
row_of_count-requires c = search (counts_grow, rules)

pub row_at-requires : goal.row_at-requires
row_at-requires c = search (count_in_lists, rules)

pub time_of_row-requires : goal.time_of_row-requires
time_of_row-requires c = search (row_to_time, rules)

pub returns-in-Some : goal.returns-in-Some
returns-in-Some c = search (time_is, rules)

pub returns-in-None : goal.returns-in-None
returns-in-None c = search (before_first, rules)
