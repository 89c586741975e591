use Prim.Native.Nat.{◌≤◌, ◌-◌}
use mathlib.Core.Path.{◌≡◌}
use lib.ListN.{length, drop}
use Rattle.kernel_rules.specs.Numbers.{after_digits}
use Rattle.kernel_numbers.specs.Pass.{zeros_of, digits_from}
use Rattle.kernel_numbers.proofs.run_on.Given as goal

abbrev pub invariant-loop-at : goal.invariant-loop-at
invariant-loop-at l = (l.initial.at ≤ l.at) × (zeros_of l.value ≤ l.at) × (l.at ≤ length l.w) × (after_digits l.w l.initial.at ≡ after_digits l.w l.at) × (digits_from l.initial.value (drop l.initial.at l.w) ≡ digits_from l.value (drop l.at l.w))

abbrev pub decreases-loop-at : goal.decreases-loop-at
decreases-loop-at l = length l.w - l.at
