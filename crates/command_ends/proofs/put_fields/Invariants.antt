use Prim.Native.Nat.{◌+◌, ◌*◌, ◌≤◌}
use mathlib.Core.Path.{◌≡◌}
use lib.ListN.{length}
use Rattle.decimal.specs.Writing.{Written}
use Rattle.command_ends.specs.Ends.{longest_field, field_rows}
use Rattle.command_ends.proofs.put_fields.Given as goal

abbrev pub invariant-loop-i : goal.invariant-loop-i
invariant-loop-i l = (l.i ≤ l.n) × (length l.out ≡ length l.initial.out) × (l.place ≤ l.at + l.i * longest_field) × Written (field_rows l.moduli l.offsets l.i) l.place l.at l.initial.out l.out
