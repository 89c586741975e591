use borrow.Author.Rules.{rules}
use Rattle.layouts.proofs.Walks.{product_start, product_turn, product_end}
use Rattle.byte_tables.proofs.layout.product_capped.Goals as goal

pub loop-i-init : goal.loop-i-init
loop-i-init c = search (product_start, rules)

pub loop-i-preserved : goal.loop-i-preserved
loop-i-preserved c = search (product_turn, rules)

pub returns : goal.returns
returns c = search (product_end, rules)
