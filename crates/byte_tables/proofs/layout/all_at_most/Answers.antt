use borrow.Author.Rules.{rules}
use Rattle.layouts.proofs.Walks.{all_start, all_turn, all_stop, all_end}
use Rattle.byte_tables.proofs.layout.all_at_most.Goals as goal

pub loop-i-init : goal.loop-i-init
loop-i-init c = search (all_start, rules)

pub returns-then-limit-number_at : goal.returns-then-limit-number_at
returns-then-limit-number_at c = search (all_stop, rules)

pub loop-i-preserved : goal.loop-i-preserved
loop-i-preserved c = search (all_turn, rules)

pub returns : goal.returns
returns c = search (all_end, rules)
