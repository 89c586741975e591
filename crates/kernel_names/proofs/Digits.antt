-- The digits of a clock's number, written at the front of a buffer.
use Prim.Native.Nat.{ℕ, ◌≤◌, max}
use mathlib.Core.Path.{◌≡◌, ap, ◌∙◌}
use mathlib.Core.List.{List}
use lib.IntN.{ℤ, nat_abs}
use lib.ListN.{length, take, drop}
use lib.Seq.{take_at}
use mir.Syntax.{w64}
use mir.Val.{SFits, to_z, of_z}
use mir.Facts.{to_z-of_z}
use native.Mathlib.Omega.{arith}
use Rattle.rules.specs.Print.{digit_count, last_digits, padded}
use Rattle.roundtrip.proofs.Digits.{digits_some, last_length}
use Rattle.decimal.specs.Writing.{Room, Written}
use Rattle.decimal.proofs.RightToLeft.{put_front, written_length}
use Rattle.decimal.proofs.Digits.{digits_room}
use Rattle.kernel_rules.specs.Names.{clock_digits}
use Rattle.kernel_names.specs.Digits.{longest_digits}

pub front_room : (x w : ℕ) (b : List ℕ) → w ≤ longest_digits → longest_digits ≤ length b → Room (last_digits w x) w b
front_room x w b h e = digits_room w x w b (omega arith) (omega arith)

pub front_length : (x w start : ℕ) (entry exit : List ℕ) → w ≤ longest_digits → longest_digits ≤ length entry → Written (last_digits w x) w start entry exit → length exit ≡ length entry
front_length x w start entry exit h k d = written_length (last_digits w x) w start entry exit (front_room x w entry h k) d

-- the clock's number is its bits in the code
pub front_digits : (clock : ℤ) (x w start : ℕ) (entry exit : List ℕ) → SFits w64 clock → x ≡ nat_abs (to_z w64 (of_z w64 clock)) → w ≡ digit_count x → Written (last_digits w x) w start entry exit → take w exit ≡ clock_digits clock
unfolding clock_digits padded
front_digits clock x w start entry exit f ex ew d =
    ap (take w) (d.bytes ∙ rw zero (put_front (last_digits w x) entry))
    ∙ take_at (last_digits w x) (drop (length (last_digits w x)) entry) w (last_length w x)
    ∙ rw (← number, width)
  where
    number : x ≡ nat_abs clock
    number = ex ∙ ap nat_abs (to_z-of_z f)

    zero : start ≡ 0
    zero = omega (arith, last_length w x, d.ends)

    width : max 1 (digit_count x) ≡ w
    width = omega (arith, digits_some x)
