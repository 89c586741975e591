-- The two loops that give a number more zeros and take them away.
use Prim.Native.Nat.{ℕ, zero, suc, ◌-◌, ◌*◌, ◌/◌, ◌%◌, ◌^◌, ◌≤◌, ◌<◌}
use mathlib.Core.Path.{◌≡◌, sym, ◌∙◌}
use mathlib.Core.Bool.{Bool}
use native.Mathlib.Nat.{zero-mul, mul-one, mul_assoc, mul-le-mul, mul-mod_left, pow-suc, pow-succ'}
use native.Mathlib.Omega.{arith}
use Rattle.kernel_rules.specs.declared.Number.{Number}
use Rattle.kernel_rules.specs.declared.Number.TheVariants.{Inexact}
use Rattle.kernel_rules.specs.Numbers.{with_sign, quotient}
use Rattle.kernel_numbers.proofs.Quotients.{Means, means_exact, means_none, means_factor, quotient_means, quotient_is, ten_pos, ten_le}

module _ (m : Bool) (r : Number) where
  none : (D : ℕ) → 0 < D → r ≡ with_sign m 0 → r ≡ quotient m 0 D
  none D pos e = e ∙ quotient_is m 0 D (with_sign m 0) pos (means_exact m 0 D 0 (omega arith, sym (zero-mul D)))

  pub raised_none : (head power : ℕ) → head ≡ 0 → r ≡ with_sign m 0 → r ≡ quotient m (head * 10 ^ power) 1
  raised_none head power z e = rw (z, zero-mul (10 ^ power)) (none 1 (omega arith) e)

  pub divided_none : (head power : ℕ) → head ≡ 0 → r ≡ with_sign m 0 → r ≡ quotient m head (10 ^ power)
  divided_none head power z e = rw z (none (10 ^ power) (ten_pos power) e)

  pub raised_done : (N value left : ℕ) → left ≤ 0 → value < 2 ^ 64 → N ≡ value * 10 ^ left → r ≡ with_sign m value → r ≡ quotient m N 1
  raised_done N value zero h l e i = i ∙ quotient_is m N 1 (with_sign m value) (omega arith) (means_exact m N 1 value (l, e))
  raised_done N value (suc left) h l e i = absurd (omega arith)

  pub divided_done : (Q : Number) (value left : ℕ) → left ≤ 0 → value < 2 ^ 64 → Q ≡ quotient m value (10 ^ left) → r ≡ with_sign m value → r ≡ Q
  divided_done Q value zero h l e i = i ∙ quotient_is m value 1 (with_sign m value) (omega arith) (means_exact m value 1 value (l, sym (mul-one value))) ∙ sym e
  divided_done Q value (suc left) h l e i = absurd (omega arith)

pub raised_turn : (N value left more : ℕ) → 0 < left → more ≡ value * 10 → N ≡ value * 10 ^ left → N ≡ more * 10 ^ (left - 1)
raised_turn N value zero more h i e = absurd (omega arith)
raised_turn N value (suc left) more h i e = e ∙ rw (i, pow-succ' 10 left, ← mul_assoc value 10 (10 ^ left), back)
  where
    back : suc left - 1 ≡ left
    back = omega arith

pub raised_over : (m : Bool) (N value left : ℕ) → 0 < left → (value * 10 < 2 ^ 64 → ⊥) → N ≡ value * 10 ^ left → Inexact ≡ quotient m N 1
raised_over m N value left h l e = quotient_is m N 1 Inexact (omega arith) (means_none m N 1 (λ q k. omega (arith, large, k.0, k.1)))
  where
    large : 2 ^ 64 ≤ value * 10 ^ left
    large = omega (arith, l, mul-le-mul {n₁ = value} {m₁ = 10} {n₂ = value} {m₂ = 10 ^ left} (omega arith) (ten_le 1 left h))

module _ (m : Bool) (Q : Number) where
  pub divided_turn : (value left : ℕ) → 0 < left → value % 10 ≡ 0 → Q ≡ quotient m value (10 ^ left) → Q ≡ quotient m (value / 10) (10 ^ (left - 1))
  divided_turn value zero h z e = absurd (omega arith)
  divided_turn value (suc left) h z e = rw back (e ∙ sym (quotient_is m value (10 ^ suc left) _ (ten_pos (suc left)) (tens (value / 10) whole)))
    where
      back : suc left - 1 ≡ left
      back = omega arith

      whole : value ≡ value / 10 * 10
      whole = omega arith

      tens : (v : ℕ) → value ≡ v * 10 → Means m value (10 ^ suc left) (quotient m v (10 ^ left))
      tens v i = rw (i, pow-suc 10 left) (means_factor 10 m v (10 ^ left) _ (omega arith) (quotient_means m v (10 ^ left) (ten_pos left)))

  pub divided_over : (value left : ℕ) → 0 < left → (value % 10 ≡ 0 → ⊥) → Q ≡ quotient m value (10 ^ left) → Inexact ≡ Q
  divided_over value zero h f e = absurd (omega arith)
  divided_over value (suc left) h f e = quotient_is m value (10 ^ suc left) Inexact (ten_pos (suc left)) (means_none m value (10 ^ suc left) (λ q k. f (rw k.1 (ends q)))) ∙ sym e
    where
      ends : (q : ℕ) → q * 10 ^ suc left % 10 ≡ 0
      ends q = rw (pow-suc 10 left, ← mul_assoc q (10 ^ left) 10) (mul-mod_left (q * 10 ^ left) 10)
