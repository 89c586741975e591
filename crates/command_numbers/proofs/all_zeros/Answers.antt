use borrow.Author.Rules.{rules}
use Rattle.command_numbers.proofs.Spelled.{zeros_next, zeros_out, zeros_done}
use Rattle.command_numbers.proofs.all_zeros.Goals as goal

pub returns-then-text-i-ne48 : goal.returns-then-text-i-ne48
returns-then-text-i-ne48 c = search (zeros_out, rules)

pub loop-i-preserved : goal.loop-i-preserved
loop-i-preserved c = search (zeros_next, rules)

pub returns : goal.returns
returns c = search (zeros_done, rules)
