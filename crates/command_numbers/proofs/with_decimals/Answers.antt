use borrow.Author.Rules.{rules}
use Rattle.command_numbers.proofs.Spelled.{decimals_next, decimals_done}
use Rattle.command_numbers.proofs.with_decimals.Goals as goal

pub loop-i-preserved : goal.loop-i-preserved
loop-i-preserved c = (search rules, search rules, search (decimals_next, rules))

pub returns : goal.returns
returns c = search (decimals_done, rules)
