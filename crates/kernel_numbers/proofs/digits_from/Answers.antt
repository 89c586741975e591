use Rattle.kernel_numbers.proofs.FewBytes.{fitting_long, fitting_head, fitting_run, fitting_few}
use borrow.Author.Rules.{rules}
use Rattle.kernel_numbers.proofs.digits_from.Goals as goal

pub returns-then-w-gt-FEW-clause-fitting_2 : goal.returns-then-w-gt-FEW-clause-fitting_2
returns-then-w-gt-FEW-clause-fitting_2 c = fitting_long _ _ _ (search rules)

pub returns-clause-digits_value : goal.returns-clause-digits_value
returns-clause-digits_value c = search (fitting_run, rules)

pub returns-clause-fitting_2 : goal.returns-clause-fitting_2
returns-clause-fitting_2 c = fitting_few _ _ _ (search rules)

pub run_few-few-requires : goal.run_few-few-requires
run_few-few-requires c = (search rules, search rules, search (fitting_head, rules))
