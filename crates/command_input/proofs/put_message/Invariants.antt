use Prim.Native.Nat.{◌-◌, ◌*◌, ◌≤◌}
use mathlib.Core.Path.{◌≡◌}
use mathlib.Core.List.{◌++◌}
use lib.ListN.{length, take, drop}
use Rattle.command_rules.specs.Input.{bytes_of}
use Rattle.command_input.proofs.put_message.Given as goal

-- the bytes put so far, and those of the digits that are left
abbrev pub invariant-loop-at : goal.invariant-loop-at
invariant-loop-at l = (l.at ≤ length l.text) × (l.at ≡ 2 * l.n) × (length l.message ≡ length l.initial.message) × (bytes_of l.text ≡ take l.n l.message ++ bytes_of (drop l.at l.text))

abbrev pub decreases-loop-at : goal.decreases-loop-at
decreases-loop-at l = length l.text - l.at
