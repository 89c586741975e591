use Prim.Native.Nat.{◌≤◌, ◌-◌, min}
use mathlib.Core.Path.{◌≡◌}
use lib.ListN.{length, drop}
use Rattle.kernel_rules.specs.Numbers.{after_digits, followed}
use Rattle.kernel_numbers.specs.Pass.{power_cap}
use Rattle.kernel_numbers.proofs.read_power.Given as goal

abbrev pub invariant-loop-at : goal.invariant-loop-at
invariant-loop-at l = (l.initial.at ≤ l.at) × (l.value ≤ power_cap) × (l.at ≤ length l.w) × (after_digits l.w l.initial.at ≡ after_digits l.w l.at) × (min (followed l.initial.value (drop l.initial.at l.w)) power_cap ≡ min (followed l.value (drop l.at l.w)) power_cap)

abbrev pub decreases-loop-at : goal.decreases-loop-at
decreases-loop-at l = length l.w - l.at
