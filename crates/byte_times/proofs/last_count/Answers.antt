use borrow.Author.Rules.{rules}
use Rattle.conversion.proofs.Conversions.{next_fits, next_inside, next_positive_at, next_ends, last_ends}
use Rattle.byte_times.proofs.last_count.Goals as goal

pub overflow_add-i : goal.overflow_add-i
overflow_add-i c = search (next_fits, rules)

pub overflow_add-i-then-i-n : goal.overflow_add-i-then-i-n
overflow_add-i-then-i-n c = search (next_fits, rules)

pub number_at-requires : goal.number_at-requires
number_at-requires c = search (next_inside, rules)

pub overflow_sub-result : goal.overflow_sub-result
overflow_sub-result c = search (next_positive_at, rules)

pub returns-then-i-n : goal.returns-then-i-n
returns-then-i-n c = search (next_ends, rules)

pub returns : goal.returns
returns c = search (last_ends, rules)
