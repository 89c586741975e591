use borrow.Author.Rules.{rules}
use Rattle.kernel_numbers.proofs.Powers.{divided_none, divided_turn, divided_over, divided_done}
use Rattle.kernel_numbers.proofs.divided.Goals as goal

pub loop-left-preserved : goal.loop-left-preserved
loop-left-preserved c = (search rules, search (divided_turn, rules))

pub returns-then-head-eq0 : goal.returns-then-head-eq0
returns-then-head-eq0 c = search (divided_none, rules)

pub returns-then-value-ne0 : goal.returns-then-value-ne0
returns-then-value-ne0 c = search (divided_over, rules)

pub returns : goal.returns
returns c = search (divided_done, rules)
