use Rattle.kernel_heads.proofs.Heads.{value_missing, value_missing_drop, value_found, value_found_drop}
use borrow.Author.Rules.{rules}
use Rattle.kernel_heads.proofs.value_at.Goals as goal

pub returns-then-l-equals-clause-value : goal.returns-then-l-equals-clause-value
returns-then-l-equals-clause-value c = search (value_missing, rules)

pub returns-then-l-equals-clause-l_value : goal.returns-then-l-equals-clause-l_value
returns-then-l-equals-clause-l_value c = search (value_missing_drop, rules)

pub returns-clause-value : goal.returns-clause-value
returns-clause-value c = search (value_found, rules)

pub returns-clause-l_value : goal.returns-clause-l_value
returns-clause-l_value c = search (value_found_drop, rules)
