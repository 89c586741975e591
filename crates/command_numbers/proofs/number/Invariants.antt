use Prim.Native.Nat.{◌-◌, ◌≤◌, min}
use mathlib.Core.Path.{◌≡◌}
use lib.ListN.{length, drop}
use Rattle.command_rules.specs.Input.{spelled, spelled_from}
use Rattle.command_numbers.specs.Given.{number_cap}
use Rattle.command_numbers.proofs.number.Given as goal

-- what is left from here has the value of the whole
abbrev pub invariant-loop-i : goal.invariant-loop-i
invariant-loop-i l = (l.x ≤ number_cap) × (min (spelled l.digits) number_cap ≡ min (spelled_from l.x (drop l.i l.digits)) number_cap)

abbrev pub decreases-loop-i : goal.decreases-loop-i
decreases-loop-i l = length l.digits - l.i
