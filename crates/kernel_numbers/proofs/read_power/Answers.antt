use borrow.Author.Rules.{rules}
use Rattle.kernel_numbers.proofs.Steps.{digits_next, digits_stop, digits_end, power_next, power_stop, power_end}
use Rattle.kernel_numbers.proofs.read_power.Goals as goal

pub loop-at-preserved : goal.loop-at-preserved
loop-at-preserved c = (search rules, search rules, search rules, search (digits_next, rules), search (power_next, rules))

pub returns-else-is_one-clause-at_value : goal.returns-else-is_one-clause-at_value
returns-else-is_one-clause-at_value c = search (digits_stop, rules)

pub returns-else-is_one-clause-value_value : goal.returns-else-is_one-clause-value_value
returns-else-is_one-clause-value_value c = search (power_stop, rules)

pub returns-after-loop-at-clause-at_value : goal.returns-after-loop-at-clause-at_value
returns-after-loop-at-clause-at_value c = search (digits_end, rules)

pub returns-after-loop-at-clause-value_value : goal.returns-after-loop-at-clause-value_value
returns-after-loop-at-clause-value_value c = search (power_end, rules)
