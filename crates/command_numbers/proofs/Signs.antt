-- The sign in front, and a number with its sign.
use Prim.Native.Nat.{ℕ, zero, suc, ◌+◌, ◌-◌, ◌^◌, ◌≤◌, min}
use Rattle.std.specs.List.{starts_with}
use Rattle.std.proofs.lemmas.Bool.Decides.{nat_tests}
use mathlib.Core.Bool.{and-true}
use mathlib.Core.Path.{◌≡◌, refl, sym, ◌∙◌}
use mathlib.Core.Bool.{Bool, true, false}
use mathlib.Core.List.{List, [], ◌∷◌}
use lib.Dec.{eqb}
use lib.IntN.{ℤ, pos, negsuc}
use lib.ListN.{length}
use mir.Syntax.{w64}
use mir.Val.{SFits}
use native.Mathlib.Omega.{arith}
use Rattle.base.specs.Signed.{ordinal}
use Rattle.base.proofs.Tests.{not_both}
use Rattle.command_rules.specs.Input.{is_minus, sign_length, with_sign}
use Rattle.command_numbers.specs.Given.{number_cap, near_time}

pub minus_at : (s : List ℕ) → starts_with eqb s (45 ∷ []) ≡ is_minus s
unfolding is_minus
minus_at [] = refl
minus_at (b ∷ s) = and-true (eqb 45 b) ∙ grind (arith, nat_tests)

module _ (s : List ℕ) where
  module _ (t : Bool) (e : t ≡ is_minus s) where
    pub sign_one : t ≡ true → 1 ≡ sign_length s
    unfolding sign_length
    sign_one y = rw (← e, y)

    pub sign_none : t ≡ false → 0 ≡ sign_length s
    unfolding sign_length
    sign_none n = rw (← e, n)

some_bytes : (s : List ℕ) → is_minus s ≡ true → 1 ≤ length s
unfolding is_minus
some_bytes [] h = absurd (not_both h refl)
some_bytes (b ∷ s) h = omega arith

pub minus_within : (s : List ℕ) (t : Bool) → t ≡ is_minus s → t ≡ true → 1 ≤ length s
minus_within s t e y = some_bytes s (sym e ∙ y)

-- by the ordinal of the time
below_zero : (r : ℤ) (n : ℕ) → n ≤ number_cap → ordinal (2 ^ 63) r ≡ 2 ^ 63 - n → r ≡ with_sign true n
unfolding ordinal with_sign
below_zero (pos k) zero l e = let z : k ≡ 0 = omega arith in rw z
below_zero (pos k) (suc n) l e = absurd (omega arith)
below_zero (negsuc k) zero l e = absurd (omega arith)
below_zero (negsuc k) (suc n) l e = let z : k ≡ n = omega arith in rw z

above_zero : (r : ℤ) (n : ℕ) → n ≤ number_cap → ordinal (2 ^ 63) r ≡ 2 ^ 63 + n → r ≡ with_sign false n
unfolding ordinal with_sign
above_zero (pos k) n l e = let z : k ≡ n = omega arith in rw z
above_zero (negsuc k) n l e = absurd (omega arith)

module _ (r : ℤ) (m : Bool) (n : ℕ) (small : n ≤ number_cap) where
  pub sign_minus : m ≡ true → ordinal (2 ^ 63) r ≡ 2 ^ 63 - n → r ≡ with_sign m n
  sign_minus y e = rw y (below_zero r n small e)

  pub sign_plus : m ≡ false → ordinal (2 ^ 63) r ≡ 2 ^ 63 + n → r ≡ with_sign m n
  sign_plus y e = rw y (above_zero r n small e)

-- a number with its sign, capped
pub near_sign : (m : Bool) (n : ℕ) → near_time (with_sign m n) ≡ with_sign m (min n number_cap)
unfolding near_time with_sign
near_sign false n = refl
near_sign true zero = refl
near_sign true (suc n) = let e : min (suc n) number_cap ≡ suc (min n (number_cap - 1)) = omega arith in rw e

-- it is an i64
pub sign_fits : (m : Bool) (n : ℕ) → n ≤ number_cap → SFits w64 (with_sign m n)
unfolding with_sign
sign_fits false n l = record { sfits = omega arith }
sign_fits true zero l = record { sfits = omega arith }
sign_fits true (suc n) l = record { sfits = omega arith }
