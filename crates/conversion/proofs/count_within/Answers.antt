use borrow.Author.Rules.{rules}
use Rattle.conversion.proofs.Conversions.{times_grow, out_of_range, before_all, time_in_lists, has_count, row_to_ticks, row_sum_fits, count_is}
use Rattle.conversion.proofs.count_within.Goals as goal

pub returns-then-not-in_range : goal.returns-then-not-in_range
returns-then-not-in_range c = search (out_of_range, rules)

pub row_of_time-requires : goal.row_of_time-requires
row_of_time-requires c = search (times_grow, rules)

pub row_at-requires : goal.row_at-requires
row_at-requires c = search (time_in_lists, rules)

pub last_count-requires : goal.last_count-requires
last_count-requires c = search (has_count, rules)

pub count_of_row-requires-clause-to_ticks : goal.count_of_row-requires-clause-to_ticks
count_of_row-requires-clause-to_ticks c = search (row_to_ticks, rules)

pub count_of_row-requires-clause-t_bound : goal.count_of_row-requires-clause-t_bound
count_of_row-requires-clause-t_bound c = search (row_sum_fits, rules)

pub returns : goal.returns
returns c = search (count_is, rules)

pub returns-in_default : goal.returns-in_default
returns-in_default c = search (before_all, rules)
