use borrow.Author.Rules.{rules}
use Rattle.kernel_numbers.proofs.Steps.{digit_zeros, digits_next, digits_stop, digits_end, run_next, run_stop, run_end}
use Rattle.kernel_numbers.proofs.run_on.Goals as goal

pub loop-at-preserved : goal.loop-at-preserved
loop-at-preserved c = (search rules, search (digit_zeros, rules), search rules, search (digits_next, rules), search (run_next, rules))

pub returns-else-is_one-clause-at_value : goal.returns-else-is_one-clause-at_value
returns-else-is_one-clause-at_value c = search (digits_stop, rules)

pub returns-else-is_one-clause-digits_value : goal.returns-else-is_one-clause-digits_value
returns-else-is_one-clause-digits_value c = search (run_stop, rules)

pub returns-after-loop-at-clause-at_value : goal.returns-after-loop-at-clause-at_value
returns-after-loop-at-clause-at_value c = search (digits_end, rules)

pub returns-after-loop-at-clause-digits_value : goal.returns-after-loop-at-clause-digits_value
returns-after-loop-at-clause-digits_value c = search (run_end, rules)
