use borrow.Author.Rules.{rules}
use Rattle.encode.proofs.Sums.{passed_start, passed_next, passed_here, passed_all, sum_of, in-ends, from_start, encoded_fits, ends_at_start, before_fits}
use Rattle.byte_stamps.proofs.partition.encode_first.Goals as goal

pub loop-i-init : goal.loop-i-init
loop-i-init c = search (passed_start, rules)

pub number_at-end-requires : goal.number_at-end-requires
number_at-end-requires c = search (in-ends, rules)

pub overflow_sub-result : goal.overflow_sub-result
overflow_sub-result c = search (from_start, rules)

pub overflow_add-result : goal.overflow_add-result
overflow_add-result c = search (encoded_fits, sum_of, rules)

pub returns-then-is_within : goal.returns-then-is_within
returns-then-is_within c = search (passed_here, rules)

pub overflow_sub-before : goal.overflow_sub-before
overflow_sub-before c = search (ends_at_start, rules)

pub overflow_add-before : goal.overflow_add-before
overflow_add-before c = search (before_fits, sum_of, rules)

pub loop-i-preserved : goal.loop-i-preserved
loop-i-preserved c = search (passed_next, rules)

pub returns : goal.returns
returns c = search (passed_all, rules)
