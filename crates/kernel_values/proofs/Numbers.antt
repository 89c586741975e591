-- Numbers as the code tells them apart: whether a value is one, and one in 64 bits with a sign.
use Prim.Native.Nat.{ℕ, zero, suc, ◌+◌, ◌-◌, ◌^◌, ◌%◌, ◌/◌, ◌≤◌, ◌<◌}
use mathlib.Core.Logic.{◌⊎◌, inl, inr}
use mathlib.Core.Path.{◌≡◌, refl, ◌∙◌}
use mathlib.Core.Bool.{Bool, true, false, ◌&&◌}
use lib.IntN.{ℤ, pos, neg_ℤ}
use lib.Dec.{eqb, ltb}
use lib.Signed.{mag}
use mathlib.Core.List.{List}
use mir.Syntax.{w64}
use mir.Val.{SFits, to_z, of_z}
use mir.Facts.{to_z-of_z}
use borrow.Author.Tests.{lt-ltb, le-ltb, le-leb, lt-leb}
use native.Mathlib.Omega.{arith}
use Rattle.base.specs.Signed.{ordinal}
use Rattle.base.proofs.Signed.{ordinal_one}
use Rattle.base.proofs.Tests.{by_test}
use Rattle.kernel_rules.specs.declared.Number.{Number}
use Rattle.kernel_rules.specs.declared.Number.TheVariants.{Malformed, Inexact, Plus, Minus}
use Rattle.kernel_rules.specs.Numbers.{is_number, with_sign, quotient, scaled, value_in, number_in}
use Rattle.kernel_rules.specs.Tables.{is_signed, signed}
use Rattle.kernel_values.specs.Reads.{is_formed, signed_or0}

formed_sign : (m : Bool) (v : ℕ) → is_formed (with_sign m v) ≡ true
unfolding is_formed with_sign
formed_sign true v = refl
formed_sign false v = refl

formed_quotient : (m : Bool) (n d : ℕ) → is_formed (quotient m n d) ≡ true
unfolding is_formed quotient
formed_quotient m n d =
    by_test (eqb (n % d) 0 && ltb (n / d) (2 ^ 64)) (λ t. rw t (formed_sign m (n / d))) (λ f. rw f)

formed_value : (k : ℕ) (s : List ℕ) → is_formed (value_in k s) ≡ true
unfolding value_in scaled
formed_value k s = formed_quotient _ _ _

-- a value is no number in every unit or in none
pub formed_is : (k : ℕ) (s : List ℕ) → is_formed (number_in k s) ≡ is_number s
unfolding number_in is_formed
formed_is k s = by_test (is_number s) (λ t. rw t (formed_value k s)) (λ f. rw f)

-- a time from its distance from the least i64
module _ (v : ℕ) (z : ℤ) (f : SFits w64 z) where
  pub plus_fits : v < 2 ^ 63 → ordinal (2 ^ 63) z ≡ 2 ^ 63 + v → to_z w64 (of_z w64 z) ≡ signed_or0 (Plus v)
  unfolding signed_or0 is_signed signed ordinal
  plus_fits h o = rw (lt-ltb v (2 ^ 63) h) (to_z-of_z f ∙ ordinal_one (2 ^ 63) z (pos v) f.sfits h o)

  pub minus_fits : v ≤ 2 ^ 63 → ordinal (2 ^ 63) z ≡ 2 ^ 63 - v → to_z w64 (of_z w64 z) ≡ signed_or0 (Minus v)
  unfolding signed_or0 is_signed signed ordinal
  minus_fits h o = rw (le-leb v (2 ^ 63) h) (to_z-of_z f ∙ ordinal_one (2 ^ 63) z (neg_ℤ (pos v)) f.sfits (negative v h) (o ∙ distance v h))
    where
      negative : (v : ℕ) → v ≤ 2 ^ 63 → mag (neg_ℤ (pos v)) < 2 ^ 63
      negative zero h = omega arith
      negative (suc n) h = omega arith

      distance : (v : ℕ) → v ≤ 2 ^ 63 → 2 ^ 63 - v ≡ ordinal (2 ^ 63) (neg_ℤ (pos v))
      distance zero h = refl
      distance (suc n) h = refl

pub plus_beyond : (v : ℕ) → 2 ^ 63 ≤ v → pos 0 ≡ signed_or0 (Plus v)
unfolding signed_or0 is_signed
plus_beyond v h = rw (le-ltb v (2 ^ 63) h)

pub minus_beyond : (v : ℕ) → 2 ^ 63 < v → pos 0 ≡ signed_or0 (Minus v)
unfolding signed_or0 is_signed
minus_beyond v h = rw (lt-leb v (2 ^ 63) h)

-- the cases of a number
module _ (n : Number) where
  pub time_none : (n ≡ Malformed) ⊎ (n ≡ Inexact) → pos 0 ≡ signed_or0 n
  unfolding signed_or0 is_signed
  time_none (inl e) = rw e
  time_none (inr e) = rw e

  pub time_told : (m : Number) (z : ℤ) → n ≡ m → SFits w64 z → z ≡ signed_or0 m → to_z w64 (of_z w64 z) ≡ signed_or0 n
  time_told m z e f q = to_z-of_z f ∙ q ∙ rw e
