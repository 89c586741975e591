-- Digits, blanks and marks are kinds of byte apart, and an allowed byte is of one of them.
use Prim.Native.Nat.{ℕ, ◌≤◌}
use mathlib.Core.Path.{◌≡◌, refl}
use mathlib.Core.Bool.{Bool, true, false, ◌||◌}
use borrow.Author.Tests.{leb-true, eqb-true, ne_eqb}
use native.Mathlib.Omega.{arith}
use lib.Dec.{leb}
use Rattle.base.proofs.Tests.{and_first, and_second, or_neither}
use Rattle.rules.specs.Text.{is_digit, is_blank, is_mark, is_allowed}

pub blank_no_digit : (b : ℕ) → is_blank b ≡ true → is_digit b ≡ false
blank_no_digit b h = rw (eqb-true b 32 h)

pub blank_no_mark : (b : ℕ) → is_blank b ≡ true → is_mark b ≡ false
blank_no_mark b h = rw (eqb-true b 32 h)

module _ (b : ℕ) (d : is_digit b ≡ true) where
  low : 48 ≤ b
  low = leb-true 48 b (and_first (leb 48 b) _ d)

  high : b ≤ 57
  high = leb-true b 57 (and_second (leb 48 b) _ d)

  pub digit_no_mark : is_mark b ≡ false
  digit_no_mark =
      or_neither (or_neither (or_neither (ne_eqb b 46 (λ e. omega (arith, low))) (ne_eqb b 58 (λ e. omega (arith, high)))) (ne_eqb b 44 (λ e. omega (arith, low))))
      (ne_eqb b 45 (λ e. omega (arith, low)))

-- an allowed byte that is neither a digit nor a mark
pub blank_left : (b : ℕ) → is_allowed b ≡ true → is_digit b ≡ false → is_mark b ≡ false → is_blank b ≡ true
blank_left b h d m = middle (is_digit b) (is_blank b) (is_mark b) h d m
  where
    middle : (x y z : Bool) → (x || y || z) ≡ true → x ≡ false → z ≡ false → y ≡ true
    middle x true z h d m = refl
    middle x false z h d m = rw (d, m) at h
