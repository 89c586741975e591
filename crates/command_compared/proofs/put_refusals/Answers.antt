use borrow.Author.Rules.{rules}
use Rattle.command_compared.proofs.Compared.{one_number, two_numbers}
use Rattle.command_compared.proofs.put_refusals.Goals as goal

pub returns-then-number : goal.returns-then-number
returns-then-number c = search (one_number, rules)

pub returns : goal.returns
returns c = search (two_numbers, rules)
