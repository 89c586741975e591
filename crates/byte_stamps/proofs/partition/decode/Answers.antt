use native.Mathlib.Omega.{arith}
use borrow.Author.Rules.{rules}
use Rattle.decode.proofs.Searching.{search_start, start_there, end_there, last_sum, search_next, search_fits, in_order, here_partition, here_fits, last_partition, last_fits, decoded_count}
use Rattle.byte_stamps.proofs.partition.decode.Goals as goal

pub loop-i-init : goal.loop-i-init
loop-i-init c = search (search_start, rules)

pub number_at-start-requires : goal.number_at-start-requires
number_at-start-requires c = search (start_there, rules)

pub number_at-requires : goal.number_at-requires
number_at-requires c = search (end_there, rules)

pub overflow_sub-next : goal.overflow_sub-next
overflow_sub-next c = search (in_order, rules)

pub overflow_add-next : goal.overflow_add-next
overflow_add-next c = search (search_fits, rules)

pub overflow_sub-result : goal.overflow_sub-result
overflow_sub-result c = search (last_sum, rules)

pub overflow_add-result : goal.overflow_add-result
overflow_add-result c = search (here_fits, rules)

pub returns-then-encoded-next-clause-partition_value : goal.returns-then-encoded-next-clause-partition_value
returns-then-encoded-next-clause-partition_value c = search (here_partition, rules)

pub returns-then-encoded-next-clause-count_value : goal.returns-then-encoded-next-clause-count_value
returns-then-encoded-next-clause-count_value c = search (here_partition, decoded_count, rules)

pub loop-i-preserved : goal.loop-i-preserved
loop-i-preserved c = search_next _ _ _ c.requires _ _ c.loop-i.invariant _ _ c.number_at-start.ensures c.number_at.ensures _ c.rows-last.ensures (omega arith) c.if-encoded-next.false

pub number_at-requires-2 : goal.number_at-requires-2
number_at-requires-2 c = search (start_there, rules)

pub overflow_sub-result-2 : goal.overflow_sub-result-2
overflow_sub-result-2 c = search (last_sum, rules)

pub overflow_add-result-2 : goal.overflow_add-result-2
overflow_add-result-2 c = search (last_fits, rules)

pub returns-clause-partition_value : goal.returns-clause-partition_value
returns-clause-partition_value c = search (last_partition, rules)

pub returns-clause-count_value : goal.returns-clause-count_value
returns-clause-count_value c = search (last_partition, decoded_count, rules)
