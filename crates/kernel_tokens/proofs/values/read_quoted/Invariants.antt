use Prim.Native.Nat.{◌+◌, ◌-◌, ◌≤◌}
use mathlib.Core.Path.{◌≡◌}
use lib.ListN.{length, drop}
use mathlib.Core.Bool.{false}
use Rattle.kernel_rules.specs.Tokens.{quoted}
use Rattle.kernel_tokens.proofs.values.read_quoted.Given as goal

abbrev pub invariant-loop-width : goal.invariant-loop-width
invariant-loop-width l = (l.from + l.width ≤ length l.l) × (l.chars ≤ l.width) × (quoted 0 0 false (drop l.from l.l) ≡ quoted l.width l.chars l.quote (drop (l.from + l.width) l.l))

abbrev pub decreases-loop-width : goal.decreases-loop-width
decreases-loop-width l = length l.l - (l.from + l.width)
