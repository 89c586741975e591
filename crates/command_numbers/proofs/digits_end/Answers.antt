use borrow.Author.Rules.{rules}
use Rattle.command_numbers.proofs.Spelled.{digits_next, digits_stop, digits_past}
use Rattle.command_numbers.proofs.digits_end.Goals as goal

pub loop-at-preserved : goal.loop-at-preserved
loop-at-preserved c = (search rules, search rules, search (digits_next, rules))

pub returns-then-not-is_ascii_digit-clause-value : goal.returns-then-not-is_ascii_digit-clause-value
returns-then-not-is_ascii_digit-clause-value c = search (digits_stop, rules)

pub returns-clause-value : goal.returns-clause-value
returns-clause-value c = search (digits_past, rules)
