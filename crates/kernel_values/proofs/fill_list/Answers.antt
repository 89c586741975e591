use borrow.Author.Rules.{rules}
use Prim.Native.Nat.{◌-◌}
use Rattle.kernel_values.proofs.Filling.{list_start, list_turn, list_less, list_read_lem, list_kept}
use Rattle.kernel_values.proofs.fill_list.Goals as goal

pub returns-clause-value : goal.returns-clause-value
returns-clause-value c = search (list_read_lem, rules)

pub returns-clause-out_after : goal.returns-clause-out_after
returns-clause-out_after c = search (list_kept, rules)

pub loop-v-init : goal.loop-v-init
loop-v-init c = search (list_start, rules)

pub loop-v-smaller : goal.loop-v-smaller
loop-v-smaller c = search (list_less, rules)

pub loop-v-preserved : goal.loop-v-preserved
loop-v-preserved c = search (list_turn, rules)
