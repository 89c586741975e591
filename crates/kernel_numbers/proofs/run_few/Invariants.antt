use Prim.Native.Nat.{◌≤◌, ◌<◌, ◌-◌, ◌^◌}
use mathlib.Core.Path.{◌≡◌}
use Rattle.std.specs.Prelude.{Some}
use lib.ListN.{length, drop}
use Rattle.kernel_rules.specs.Numbers.{after_digits}
use Rattle.kernel_numbers.specs.Pass.{digits, digits_from}
use Rattle.kernel_numbers.proofs.run_few.Given as goal

abbrev pub invariant-loop-at : goal.invariant-loop-at
invariant-loop-at l = (l.initial.at ≤ l.at) × (l.at ≤ length l.w) × (l.value < 10 ^ l.at) × (after_digits l.w l.initial.at ≡ after_digits l.w l.at) × (digits_from (Some (digits l.initial.value 0)) (drop l.initial.at l.w) ≡ digits_from (Some (digits l.value 0)) (drop l.at l.w))

abbrev pub decreases-loop-at : goal.decreases-loop-at
decreases-loop-at l = length l.w - l.at
