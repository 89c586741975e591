use borrow.Author.Rules.{rules}
use Prim.Native.Nat.{◌-◌}
use Rattle.kernel_walk.proofs.Walking.{walk_start, walk_turn, walk_none, walk_found, none_within, within_later}
use Rattle.kernel_walk.proofs.next_value.Goals as goal

pub returns-then-text-more-clause-result_value : goal.returns-then-text-more-clause-result_value
returns-then-text-more-clause-result_value c = search (walk_none, rules)

pub returns-then-text-more-clause-within : goal.returns-then-text-more-clause-within
returns-then-text-more-clause-within c = none_within _ _ _ _ c.no_value.ensures (search rules) (search rules)

pub value_here-requires-clause-from_value : goal.value_here-requires-clause-from_value
value_here-requires-clause-from_value c = c.loop-stop.invariant.stops (search rules)

pub returns-clause-result_value : goal.returns-clause-result_value
returns-clause-result_value c = search (walk_found, rules)

pub returns-clause-within : goal.returns-clause-within
returns-clause-within c = search (within_later, rules)

pub loop-stop-init : goal.loop-stop-init
loop-stop-init c = search (walk_start, rules)

pub loop-stop-preserved : goal.loop-stop-preserved
loop-stop-preserved c = search (walk_turn, rules)
