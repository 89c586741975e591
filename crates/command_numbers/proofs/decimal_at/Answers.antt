use borrow.Author.Rules.{rules}
use Rattle.command_numbers.proofs.Spelled.{decimal_in, decimal_past}
use Rattle.command_numbers.proofs.decimal_at.Goals as goal

pub returns-then-at-text : goal.returns-then-at-text
returns-then-at-text c = search (decimal_in, rules)

pub returns : goal.returns
returns c = search (decimal_past, rules)
