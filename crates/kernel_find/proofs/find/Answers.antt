use Prim.Native.Nat.{◌-◌}
use Rattle.kernel_find.proofs.Walk.{walk_start, walk_turn, walk_twice, walk_end, walk_bad}
use borrow.Author.Rules.{rules}
use Rattle.kernel_find.proofs.find.Goals as goal

pub loop-at-init : goal.loop-at-init
loop-at-init c = search (walk_start, rules)

pub returns-then-slots-k-ne0 : goal.returns-then-slots-k-ne0
returns-then-slots-k-ne0 c = search (walk_twice, rules)

pub loop-at-preserved : goal.loop-at-preserved
loop-at-preserved c = search (walk_turn, rules)

pub returns-then-ends_well : goal.returns-then-ends_well
returns-then-ends_well c = search (walk_end, rules)

pub returns-else-ends_well : goal.returns-else-ends_well
returns-else-ends_well c = search (walk_bad, rules)
