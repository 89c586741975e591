-- What an exact quotient is, and that a cap on the powers of ten changes nothing.
use Prim.Native.Nat.{ℕ, zero, suc, ◌+◌, ◌-◌, ◌*◌, ◌/◌, ◌%◌, ◌^◌, ◌≤◌, ◌<◌, min}
use mathlib.Core.Path.{◌≡◌, refl, sym, ap, ◌∙◌}
use mathlib.Core.Bool.{Bool}
use mathlib.Core.Logic.{◌⊎◌, inl, inr, ⊎_elim}
use lib.Dec.{eqb, ltb}
use lib.Pow.{pow-add}
use native.Mathlib.Nat.{zero-mul, one-mul, mul-one, mul_assoc, mul-le-mul_right, mul-lt-mul_of_pos_right, le_of_mul-le-mul_right, eq_of_mul-eq-mul_right, mul-mod_left, div-add-mod', pow-le-pow_right}
use native.Mathlib.Omega.{arith}
use borrow.Author.Tests.{eqb-true, eqb-false, ltb-true, ltb-false}
use Rattle.base.proofs.Tests.{by_test}
use Rattle.kernel_rules.specs.declared.Number.{Number}
use Rattle.kernel_rules.specs.declared.Number.TheVariants.{Inexact}
use Rattle.kernel_rules.specs.Numbers.{with_sign, quotient, scaled}

-- q is N / D, exactly, and has room
abbrev pub Quotient : ℕ → ℕ → ℕ → Type 0
Quotient N D q = (q < 2 ^ 64) × (N ≡ q * D)

-- r is that quotient with its sign, or Inexact where there is none
unfoldable pub Means : Bool → ℕ → ℕ → Number → Type 0
Means m N D r = ((q : ℕ) × (r ≡ with_sign m q) × Quotient N D q) ⊎ ((r ≡ Inexact) × ((q : ℕ) → Quotient N D q → ⊥))

pub means_exact : (m : Bool) (N D q : ℕ) → Quotient N D q → Means m N D (with_sign m q)
unfolding Means
means_exact m N D q h = inl (q, refl, h)

pub means_none : (m : Bool) (N D : ℕ) → ((q : ℕ) → Quotient N D q → ⊥) → Means m N D Inexact
unfolding Means
means_none m N D f = inr (refl, f)

quotient_one : (N D p q : ℕ) → 0 < D → Quotient N D p → Quotient N D q → p ≡ q
quotient_one N D p q pos h k = eq_of_mul-eq-mul_right D pos p q (sym h.1 ∙ k.1)

pub means_unique : (m : Bool) (N D : ℕ) (u v : Number) → 0 < D → Means m N D u → Means m N D v → u ≡ v
unfolding Means
means_unique m N D u v pos =
    ⊎_elim
    (λ h. ⊎_elim (λ k. h.1 ∙ ap (with_sign m) (quotient_one N D h.0 k.0 pos h.2 k.2) ∙ sym k.1) (λ k. absurd (k.1 h.0 h.2)))
    (λ h. ⊎_elim (λ k. absurd (h.1 k.0 k.2)) (λ k. h.0 ∙ sym k.0))

-- two divisions with the same quotients
pub means_same : (m : Bool) (N D N' D' : ℕ) (r : Number) → ((q : ℕ) → Quotient N D q → Quotient N' D' q) → ((q : ℕ) → Quotient N' D' q → Quotient N D q) → Means m N D r → Means m N' D' r
unfolding Means
means_same m N D N' D' r to from = ⊎_elim (λ h. inl (h.0, h.1, to h.0 h.2)) (λ h. inr (h.0, λ q e. h.1 q (from q e)))

pub means_factor : (F : ℕ) (m : Bool) (N D : ℕ) (r : Number) → 0 < F → Means m N D r → Means m (N * F) (D * F) r
means_factor F m N D r pos =
    means_same m N D (N * F) (D * F) r
    (λ q h. (h.0, ap (λ (x : ℕ). x * F) h.1 ∙ mul_assoc q D F))
    (λ q h. (h.0, eq_of_mul-eq-mul_right F pos N (q * D) (h.1 ∙ sym (mul_assoc q D F))))

pub quotient_means : (m : Bool) (N D : ℕ) → 0 < D → Means m N D (quotient m N D)
unfolding quotient
quotient_means m N D pos =
    by_test (eqb (N % D) 0)
    (λ t. by_test (ltb (N / D) (2 ^ 64))
    (λ l. rw (t, l) (means_exact m N D (N / D) (ltb-true _ _ l, whole (eqb-true _ _ t))))
    (λ l. rw (t, l) (means_none m N D (λ q h. large q h (ltb-false _ _ l) (whole (eqb-true _ _ t))))))
    (λ f. rw f (means_none m N D (λ q h. eqb-false _ _ f (ap (λ (x : ℕ). x % D) h.1 ∙ mul-mod_left q D))))
  where
    whole : N % D ≡ 0 → N ≡ N / D * D
    whole z = omega (arith, div-add-mod' N D)

    large : (q : ℕ) → Quotient N D q → 2 ^ 64 ≤ N / D → N ≡ N / D * D → ⊥
    large q h l w = omega (arith, h.0, rw (eq_of_mul-eq-mul_right D pos (N / D) q (sym w ∙ h.1)) at l)

pub quotient_is : (m : Bool) (N D : ℕ) (r : Number) → 0 < D → Means m N D r → r ≡ quotient m N D
quotient_is m N D r pos h = means_unique m N D r (quotient m N D) pos h (quotient_means m N D pos)

-- powers of ten
pub ten_pos : (k : ℕ) → 0 < 10 ^ k
ten_pos k = pow-le-pow_right {n = 10} (omega arith) {i = 0} {j = k} (omega arith)

pub ten_le : (i j : ℕ) → i ≤ j → 10 ^ i ≤ 10 ^ j
ten_le i j h = pow-le-pow_right {n = 10} (omega arith) {i = i} {j = j} h

pub ten_split : (i j : ℕ) → i ≤ j → 10 ^ j ≡ 10 ^ (j - i) * 10 ^ i
ten_split i j h = ap (λ (x : ℕ). 10 ^ x) (sum h) ∙ pow-add 10 (j - i) i
  where
    sum : i ≤ j → j ≡ (j - i) + i
    sum l = omega arith

-- a product with a number other than 0
pub at_least : (n x : ℕ) → x ≤ suc n * x
at_least n x = omega (arith, mul-le-mul_right {m = 1} {n = suc n} x (omega arith))

-- twenty zeros are too many for any number but 0
too_large : (n q up down : ℕ) → down + 20 ≤ up → Quotient (suc n * 10 ^ up) (10 ^ down) q → ⊥
too_large n q up down h e = omega (arith, e.0, le_of_mul-le-mul_right {m = 10 ^ 20} {n = q} {k = 10 ^ down} less (ten_pos down))
  where
    less : 10 ^ 20 * 10 ^ down ≤ q * 10 ^ down
    less = omega (arith, e.1, at_least n (10 ^ up), ten_le (20 + down) up (omega arith), pow-add 10 20 down)

-- no number but 0 has more zeros to take away than it has digits
too_small : (n q up down len : ℕ) → suc n < 10 ^ len → up + len ≤ down → Quotient (suc n * 10 ^ up) (10 ^ down) q → ⊥
too_small n zero up down len l h e = omega (arith, e.1, at_least n (10 ^ up), ten_pos up)
too_small n (suc q) up down len l h e =
    omega (arith, e.1, at_least q (10 ^ down), mul-lt-mul_of_pos_right {m = suc n} {n = 10 ^ len} {k = 10 ^ up} l (ten_pos up), pow-add 10 len up, ten_le (len + up) down (omega arith))

-- 0 is 0 in any unit
zero_quotient : (D E q : ℕ) → 0 < D → Quotient 0 D q → Quotient 0 E q
zero_quotient D E zero pos h = (h.0, sym (zero-mul E))
zero_quotient D E (suc q) pos h = absurd (omega (arith, at_least q D, h.1))

pub more_up : (m : Bool) (n up up' down : ℕ) (r : Number) → down + 20 ≤ up' → up' ≤ up → Means m (n * 10 ^ up') (10 ^ down) r → Means m (n * 10 ^ up) (10 ^ down) r
more_up m zero up up' down r h l = λ k. rw (zero-mul (10 ^ up)) (rw (zero-mul (10 ^ up')) at k)
more_up m (suc n) up up' down r h l =
    means_same m (suc n * 10 ^ up') (10 ^ down) (suc n * 10 ^ up) (10 ^ down) r (λ q e. absurd (too_large n q up' down h e)) (λ q e. absurd (too_large n q up down (omega arith) e))

pub more_down : (m : Bool) (n up down down' len : ℕ) (r : Number) → n < 10 ^ len → up + len ≤ down' → down' ≤ down → Means m (n * 10 ^ up) (10 ^ down') r → Means m (n * 10 ^ up) (10 ^ down) r
more_down m zero up down down' len r s h l =
    λ k. rw (zero-mul (10 ^ up)) (means_same m 0 (10 ^ down') 0 (10 ^ down) r (λ q. zero_quotient (10 ^ down') (10 ^ down) q (ten_pos down')) (λ q. zero_quotient (10 ^ down) (10 ^ down') q (ten_pos down)) (rw (zero-mul (10 ^ up)) at k))
more_down m (suc n) up down down' len r s h l =
    means_same m (suc n * 10 ^ up) (10 ^ down') (suc n * 10 ^ up) (10 ^ down) r (λ q e. absurd (too_small n q up down' len s h e)) (λ q e. absurd (too_small n q up down len s (omega arith) e))

-- one of the two powers may be 10^0
pub apart : (m : Bool) (n up down : ℕ) (r : Number) → Means m (n * 10 ^ (up - down)) (10 ^ (down - up)) r → Means m (n * 10 ^ up) (10 ^ down) r
apart m n up down r k = by_test (ltb up down) (λ t. lower (ltb-true _ _ t)) (λ f. upper (ltb-false _ _ f))
  where
    lower : up < down → Means m (n * 10 ^ up) (10 ^ down) r
    lower h = rw (ten_split up down (omega arith)) (means_factor (10 ^ up) m n (10 ^ (down - up)) r (ten_pos up) (rw (none h, mul-one n) at k))
      where
        none : up < down → up - down ≡ 0
        none l = omega arith

    upper : down ≤ up → Means m (n * 10 ^ up) (10 ^ down) r
    upper h = rw (ten_split down up h, ← mul_assoc n (10 ^ (up - down)) (10 ^ down)) (rw (one-mul (10 ^ down)) at (means_factor (10 ^ down) m (n * 10 ^ (up - down)) 1 r (ten_pos down) (rw (none h) at k)))
      where
        none : down ≤ up → down - up ≡ 0
        none l = omega arith

module _ (m : Bool) (len n up down : ℕ) where
  capped : (x y : ℕ) → min (up - down) 20 ≡ x → min (down - up) len ≡ y → Means m (n * 10 ^ x) (10 ^ y) (scaled m len n up down)
  unfolding scaled
  capped x y p q = rw (← p, ← q) (quotient_means m (n * 10 ^ min (up - down) 20) (10 ^ min (down - up) len) (ten_pos (min (down - up) len)))

  -- the definition without its caps
  pub scaled_means : n < 10 ^ len → Means m (n * 10 ^ up) (10 ^ down) (scaled m len n up down)
  scaled_means s = apart m n up down _ (by_test (ltb up down) (λ t. low (ltb-true _ _ t)) (λ f. high (ltb-false _ _ f)))
    where
      low_in : up < down → down - up < len → Means m (n * 10 ^ (up - down)) (10 ^ (down - up)) (scaled m len n up down)
      low_in h l = capped (up - down) (down - up) (omega arith) (omega arith)

      low_out : up < down → len ≤ down - up → Means m (n * 10 ^ (up - down)) (10 ^ (down - up)) (scaled m len n up down)
      low_out h l = more_down m n (up - down) (down - up) len len _ s (omega arith) l (capped (up - down) len (omega arith) (omega arith))

      low : up < down → Means m (n * 10 ^ (up - down)) (10 ^ (down - up)) (scaled m len n up down)
      low h = by_test (ltb (down - up) len) (λ t. low_in h (ltb-true _ _ t)) (λ f. low_out h (ltb-false _ _ f))

      high_in : down ≤ up → up - down < 20 → Means m (n * 10 ^ (up - down)) (10 ^ (down - up)) (scaled m len n up down)
      high_in h l = capped (up - down) (down - up) (omega arith) (omega arith)

      high_out : down ≤ up → 20 ≤ up - down → Means m (n * 10 ^ (up - down)) (10 ^ (down - up)) (scaled m len n up down)
      high_out h l = more_up m n (up - down) 20 (down - up) _ (omega arith) l (capped 20 (down - up) (omega arith) (omega arith))

      high : down ≤ up → Means m (n * 10 ^ (up - down)) (10 ^ (down - up)) (scaled m len n up down)
      high h = by_test (ltb (up - down) 20) (λ t. high_in h (ltb-true _ _ t)) (λ f. high_out h (ltb-false _ _ f))

  pub scaled_is : (r : Number) → n < 10 ^ len → Means m (n * 10 ^ up) (10 ^ down) r → r ≡ scaled m len n up down
  scaled_is r s h = means_unique m (n * 10 ^ up) (10 ^ down) r (scaled m len n up down) (ten_pos down) h (scaled_means s)
