use Prim.Native.Nat.{◌-◌, ◌≤◌, min}
use mathlib.Core.Path.{◌≡◌}
use lib.ListN.{drop}
use Rattle.command_rules.specs.Input.{spelled_from}
use Rattle.command_numbers.specs.Given.{number_cap}
use Rattle.command_numbers.specs.Places.{nine_decimals}
use Rattle.command_numbers.proofs.with_decimals.Given as goal

abbrev pub invariant-loop-i : goal.invariant-loop-i
invariant-loop-i l = (l.i ≤ 9) × (l.x ≤ number_cap) × (min (spelled_from l.whole (nine_decimals (drop l.from l.text))) number_cap ≡ min (spelled_from l.x (drop l.i (nine_decimals (drop l.from l.text)))) number_cap)

abbrev pub decreases-loop-i : goal.decreases-loop-i
decreases-loop-i l = 9 - l.i
