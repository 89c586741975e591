use Prim.Native.Nat.{◌^◌, ◌<◌}
use mathlib.Core.Path.{◌≡◌}
use Rattle.kernel_rules.specs.Numbers.{quotient}
use Rattle.kernel_numbers.proofs.divided.Given as goal

abbrev pub invariant-loop-left : goal.invariant-loop-left
invariant-loop-left l = (l.value < 2 ^ 64) × (quotient l.minus l.head (10 ^ l.power) ≡ quotient l.minus l.value (10 ^ l.left))

abbrev pub decreases-loop-left : goal.decreases-loop-left
decreases-loop-left l = l.left
