use Rattle.kernel_walk.proofs.Walking.{given_list, given_one, within_later, one_within}
use borrow.Author.Rules.{rules}
use Rattle.kernel_walk.proofs.given_value.Goals as goal

pub returns-then-text-from-eq40-clause-result_value : goal.returns-then-text-from-eq40-clause-result_value
returns-then-text-from-eq40-clause-result_value c = search (given_list, rules)

pub returns-then-text-from-eq40-clause-within : goal.returns-then-text-from-eq40-clause-within
returns-then-text-from-eq40-clause-within c = search (within_later, rules)

pub returns-clause-result_value : goal.returns-clause-result_value
returns-clause-result_value c = search (given_one, rules)

pub returns-clause-within : goal.returns-clause-within
returns-clause-within c = search (one_within, rules)
