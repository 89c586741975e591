use borrow.Author.Rules.{rules}
use Rattle.c_rules.proofs.Bytes.{times_rows}
use Rattle.segment_search.proofs.Segments.{times_start, middle_fits, after-middle-fits, time_inside, times_lower, times_upper, time_found}
use Rattle.byte_times.proofs.row_of_time.Goals as goal

pub loop-low-init : goal.loop-low-init
loop-low-init c = search (times_start, times_rows, rules)

pub overflow_add-middle : goal.overflow_add-middle
overflow_add-middle c = search (middle_fits, times_rows, rules)

pub time_at-requires : goal.time_at-requires
time_at-requires c = search (time_inside, rules)

pub loop-low-preserved-then-t-time_at : goal.loop-low-preserved-then-t-time_at
loop-low-preserved-then-t-time_at c = search (times_lower, rules)

pub overflow_add-low : goal.overflow_add-low
overflow_add-low c = search (after-middle-fits, times_rows, rules)

pub loop-low-preserved : goal.loop-low-preserved
loop-low-preserved c = search (times_upper, rules)

pub returns : goal.returns
returns c = search (time_found, rules)
