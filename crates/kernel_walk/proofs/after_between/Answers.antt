use borrow.Author.Rules.{rules}
use Prim.Native.Nat.{◌-◌}
use Rattle.kernel_walk.proofs.Walking.{between_turn, between_stop, between_end}
use Rattle.kernel_walk.proofs.after_between.Goals as goal

pub returns-then-not-is_between-clause-value : goal.returns-then-not-is_between-clause-value
returns-then-not-is_between-clause-value c = search (between_stop, rules)

pub loop-i-preserved : goal.loop-i-preserved
loop-i-preserved c = (search rules, search rules, search (between_turn, rules))

pub returns-clause-value : goal.returns-clause-value
returns-clause-value c = search (between_end, rules)
