use Rattle.kernel_walk.proofs.Walking.{here_close, here_value, none_within, one_within}
use borrow.Author.Rules.{rules}
use Rattle.kernel_walk.proofs.value_here.Goals as goal

pub returns-then-text-from-eq41-clause-result_value : goal.returns-then-text-from-eq41-clause-result_value
returns-then-text-from-eq41-clause-result_value c = search (here_close, rules)

pub returns-then-text-from-eq41-clause-within : goal.returns-then-text-from-eq41-clause-within
returns-then-text-from-eq41-clause-within c = none_within _ _ _ _ c.no_value.ensures (search rules) (search rules)

pub returns-clause-result_value : goal.returns-clause-result_value
returns-clause-result_value c = search (here_value, rules)

pub returns-clause-within : goal.returns-clause-within
returns-clause-within c = search (one_within, rules)
