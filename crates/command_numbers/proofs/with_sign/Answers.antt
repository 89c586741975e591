use borrow.Author.Rules.{rules}
use Rattle.command_numbers.proofs.Signs.{sign_minus, sign_plus}
use Rattle.command_numbers.proofs.with_sign.Goals as goal

pub returns-then-minus : goal.returns-then-minus
returns-then-minus c = search (sign_minus, rules)

pub returns : goal.returns
returns c = search (sign_plus, rules)
