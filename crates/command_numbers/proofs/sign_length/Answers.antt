use borrow.Author.Rules.{rules}
use Rattle.command_numbers.proofs.Signs.{sign_one, sign_none, minus_within}
use Rattle.command_numbers.proofs.sign_length.Goals as goal

pub returns-then-is_minus-clause-value : goal.returns-then-is_minus-clause-value
returns-then-is_minus-clause-value c = search (sign_one, rules)

pub returns-then-is_minus-clause-upper_bound : goal.returns-then-is_minus-clause-upper_bound
returns-then-is_minus-clause-upper_bound c = search (minus_within, rules)

pub returns-clause-value : goal.returns-clause-value
returns-clause-value c = search (sign_none, rules)
