use borrow.Author.Rules.{rules}
use Rattle.encode.proofs.Sums.{named_start, named_end, named_before, named_inside, named_outside, from_start, named_fits}
use Rattle.byte_stamps.proofs.partition.encode_named.Goals as goal

pub number_at-start-requires : goal.number_at-start-requires
number_at-start-requires c = search (named_start, rules)

pub number_at-requires : goal.number_at-requires
number_at-requires c = search (named_end, rules)

pub lengths_before-before-requires-clause-row_in_bounds : goal.lengths_before-before-requires-clause-row_in_bounds
lengths_before-before-requires-clause-row_in_bounds c = search (named_before, rules)

pub overflow_sub-result : goal.overflow_sub-result
overflow_sub-result c = search (from_start, rules)

pub overflow_add-result : goal.overflow_add-result
overflow_add-result c = search (named_fits, rules)

pub returns-then-is_within : goal.returns-then-is_within
returns-then-is_within c = search (named_inside, rules)

pub returns : goal.returns
returns c = search (named_outside, rules)
