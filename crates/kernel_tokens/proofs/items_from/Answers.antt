use Rattle.kernel_tokens.proofs.Items.{items_gap, items_turn, items_end}
use borrow.Author.Rules.{rules}
use Rattle.kernel_tokens.proofs.items_from.Goals as goal

pub loop-i-preserved-then-is_gap : goal.loop-i-preserved-then-is_gap
loop-i-preserved-then-is_gap c = (search rules, search (items_gap, rules))

pub loop-i-preserved : goal.loop-i-preserved
loop-i-preserved c = (search rules, search (items_turn, rules))

pub returns : goal.returns
returns c = search (items_end, rules)
