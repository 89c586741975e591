use Rattle.kernel_walk.proofs.Walking.{own_gap, own_nothing, own_given, none_within, within_later, end_next}
use borrow.Author.Rules.{rules}
use Rattle.kernel_walk.proofs.first_value.Goals as goal

pub returns-then-end-at-clause-result_value : goal.returns-then-end-at-clause-result_value
returns-then-end-at-clause-result_value c = search (own_nothing, rules)

pub returns-then-end-at-clause-within : goal.returns-then-end-at-clause-within
returns-then-end-at-clause-within c = none_within _ _ _ _ c.no_value.ensures (search rules) (search rules)

pub given_value-requires-clause-from_lt_end : goal.given_value-requires-clause-from_lt_end
given_value-requires-clause-from_lt_end c = search (end_next, rules)

pub given_value-requires-clause-from_value : goal.given_value-requires-clause-from_value
given_value-requires-clause-from_value c = search (own_gap, rules)

pub returns-clause-result_value : goal.returns-clause-result_value
returns-clause-result_value c = search (own_given, rules)

pub returns-clause-within : goal.returns-clause-within
returns-clause-within c = search (within_later, rules)
