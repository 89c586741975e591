use Rattle.kernel_values.proofs.Storing.{judged_is, set_with}
use borrow.Author.Rules.{rules}
use Rattle.kernel_values.proofs.store_number.Goals as goal

pub returns-clause-value : goal.returns-clause-value
returns-clause-value c = search (judged_is, rules)

pub returns-clause-out_after : goal.returns-clause-out_after
returns-clause-out_after c = search (set_with, rules)
