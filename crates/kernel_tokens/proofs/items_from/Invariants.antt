use Prim.Native.Nat.{◌-◌, ◌≤◌}
use mathlib.Core.Path.{◌≡◌}
use lib.ListN.{length, drop}
use Rattle.kernel_rules.specs.Tokens.{tokens_of, items}
use Rattle.kernel_tokens.proofs.items_from.Given as goal

abbrev pub invariant-loop-i : goal.invariant-loop-i
invariant-loop-i l = (l.i ≤ length l.l) × (items l.initial.p (tokens_of (drop l.from l.l)) ≡ items l.p (tokens_of (drop l.i l.l)))

abbrev pub decreases-loop-i : goal.decreases-loop-i
decreases-loop-i l = length l.l - l.i
