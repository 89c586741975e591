use borrow.Author.Rules.{rules}
use Rattle.command_numbers.proofs.Times.{number_with_sign}
use Rattle.command_numbers.proofs.time_at.Goals as goal

pub returns : goal.returns
returns c = search (number_with_sign, rules)
