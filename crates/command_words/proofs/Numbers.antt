-- A clock's number of its digits and its sign.
use Rattle.std.specs.Prelude.{Option, Some}
use Rattle.std.specs.Cmp.Lexicographic.{pointwise}
use Rattle.std.proofs.lemmas.Int.{ints}
use mathlib.Core.Bool.{and-true}
use Prim.Native.Nat.{ℕ, zero, suc, ◌-◌, ◌^◌, ◌≤◌, ◌<◌}
use mathlib.Core.Path.{◌≡◌, refl, ◌∙◌, ap}
use mathlib.Core.Bool.{true, false}
use mathlib.Core.List.{List, [], ◌∷◌}
use lib.IntN.{ℤ, pos, neg_ℤ}
use lib.Dec.{eqb}
use lib.ListN.{get_or, take, drop}
use lib.Signed.{mag}
use mir.Syntax.{w64}
use mir.Val.{SFits, to_z, of_z}
use mir.Facts.{to_z-of_z}
use native.Mathlib.Omega.{arith}
use Rattle.base.specs.Signed.{ordinal}
use Rattle.base.proofs.Signed.{ordinal_one}
use Rattle.command_words.specs.Clock.{least, spelled, below_zero, from_zero, clock_of}

pub below_number : (n : ℕ) (z : ℤ) → SFits w64 z → ordinal (2 ^ 63) z ≡ least - n → n ≤ least → to_z w64 (of_z w64 z) ≡ neg_ℤ (pos n)
unfolding ordinal
below_number n z f o h = to_z-of_z f ∙ ordinal_one (2 ^ 63) z (neg_ℤ (pos n)) f.sfits (negative n h) (o ∙ distance n h)
  where
    negative : (v : ℕ) → v ≤ 2 ^ 63 → mag (neg_ℤ (pos v)) < 2 ^ 63
    negative zero q = omega arith
    negative (suc v) q = omega arith

    distance : (v : ℕ) → v ≤ 2 ^ 63 → 2 ^ 63 - v ≡ ordinal (2 ^ 63) (neg_ℤ (pos v))
    distance zero q = refl
    distance (suc v) q = refl

pub from_number : (n : ℕ) (s : List ℕ) → spelled (least - 1) s ≡ Some n → n ≤ least - 1 → Some (to_z w64 n) ≡ from_zero (spelled (least - 1) s)
from_number n s e h = rw e (ap Some (omega (arith, ints)))

minus_test : (w : List ℕ) → pointwise eqb (take 1 w) (45 ∷ []) ≡ eqb (get_or w 0 0) 45
minus_test [] = refl
minus_test (b ∷ w) = and-true (eqb b 45)

pub minus_clock : (w digits : List ℕ) (r : Option ℤ) → pointwise eqb (take 1 w) (45 ∷ []) ≡ true → digits ≡ drop 1 w → r ≡ below_zero (spelled least digits) → r ≡ clock_of w
unfolding clock_of
minus_clock w digits r h d e = rw (← minus_test w, h, ← d) e

pub plus_clock : (w : List ℕ) (r : Option ℤ) → pointwise eqb (take 1 w) (45 ∷ []) ≡ false → r ≡ from_zero (spelled (least - 1) w) → r ≡ clock_of w
unfolding clock_of
plus_clock w r h e = rw (← minus_test w, h) e
