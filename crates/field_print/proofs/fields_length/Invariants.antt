use Prim.Native.Nat.{◌+◌, ◌*◌, ◌≤◌}
use mathlib.Core.Path.{◌≡◌}
use lib.ListN.{length}
use Rattle.field_print.proofs.Widths.{bytes_before}
use Rattle.field_print.proofs.fields_length.Given as goal

abbrev pub invariant-loop-i : goal.invariant-loop-i
invariant-loop-i l = (l.i ≤ length l.moduli) × (l.bytes ≡ bytes_before l.moduli l.offsets l.i) × (l.bytes ≤ 20 * l.i + 10)
