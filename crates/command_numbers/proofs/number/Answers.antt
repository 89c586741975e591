use borrow.Author.Rules.{rules}
use Rattle.command_numbers.proofs.Spelled.{number_next, number_done}
use Rattle.command_numbers.proofs.number.Goals as goal

pub loop-i-preserved : goal.loop-i-preserved
loop-i-preserved c = (search rules, search (number_next, rules))

pub returns : goal.returns
returns c = search (number_done, rules)
