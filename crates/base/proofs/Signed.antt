-- Signed numbers from -b to b - 1 as unsigned ones: order, sum and difference are those of their ordinals. Then order alone.
use Prim.Native.Nat.{ℕ, zero, suc, ◌+◌, ◌-◌, ◌≤◌, ◌<◌}
use mathlib.Core.Path.{◌≡◌, refl, sym, ◌∙◌}
use mathlib.Core.Bool.{true, false, not, true≢false}
use lib.IntN.{ℤ, pos, negsuc}
use lib.Dec.{leb, ltb}
use lib.Signed.{mag, le_z, lt_z}
use borrow.Author.Tests.{le-leb, lt-leb, lt-ltb, le-ltb, leb-true, leb-false, ltb-true, ltb-false}
use native.Mathlib.Nat.{le_of_lt}
use native.Mathlib.Omega.{arith}
use Rattle.base.specs.Signed.{later, elapsed, ordinal}
use Rattle.base.proofs.Tests.{by_test, not_both, same_test}

module _ (b : ℕ) where
  pub ordinal_le : (x y : ℤ) → mag x < b → mag y < b → le_z x y ≡ leb (ordinal b x) (ordinal b y)
  unfolding ordinal
  ordinal_le (pos m) (pos n) hx hy = same_test (leb m n) (leb (b + m) (b + n)) (λ t. le-leb _ _ (up (leb-true m n t))) (λ t. le-leb m n (down (leb-true (b + m) (b + n) t)))
    where
      up : m ≤ n → b + m ≤ b + n
      up h = omega arith

      down : b + m ≤ b + n → m ≤ n
      down h = omega arith
  ordinal_le (pos m) (negsuc n) hx hy = sym (lt-leb (b + m) (b - suc n) (omega arith))
  ordinal_le (negsuc m) (pos n) hx hy = sym (le-leb (b - suc m) (b + n) (omega arith))
  ordinal_le (negsuc m) (negsuc n) hx hy = same_test (leb n m) (leb (b - suc m) (b - suc n)) (λ t. le-leb _ _ (up (leb-true n m t))) (λ t. le-leb n m (down (leb-true (b - suc m) (b - suc n) t)))
    where
      up : n ≤ m → b - suc m ≤ b - suc n
      up h = omega arith

      down : b - suc m ≤ b - suc n → n ≤ m
      down h = omega arith

  -- a time d later
  pub ordinal_later : (x : ℤ) (d : ℕ) → mag x < b → ordinal b (later x d) ≡ ordinal b x + d
  unfolding ordinal later
  ordinal_later (pos m) d h = omega arith
  ordinal_later (negsuc m) d h =
      by_test (ltb d (suc m))
      (λ t. rw t (less (ltb-true d (suc m) t)))
      (λ f. rw f (more (ltb-false d (suc m) f)))
    where
      less : d < suc m → b - suc (suc m - suc d) ≡ b - suc m + d
      less l = omega arith

      more : suc m ≤ d → b + (d - suc m) ≡ b - suc m + d
      more l = omega arith

  -- how much later y is than x
  pub ordinal_elapsed : (x y : ℤ) → mag x < b → mag y < b → le_z x y ≡ true → elapsed x y ≡ ordinal b y - ordinal b x
  unfolding ordinal elapsed
  ordinal_elapsed (pos zero) (pos n) hx hy h = omega arith
  ordinal_elapsed (pos (suc m)) (pos n) hx hy h = rw (le-ltb n (suc m) (leb-true (suc m) n h)) (omega arith)
  ordinal_elapsed (pos m) (negsuc n) hx hy h = absurd (true≢false (sym h))
  ordinal_elapsed (negsuc m) (pos n) hx hy h = omega arith
  ordinal_elapsed (negsuc m) (negsuc n) hx hy h =
      rw (le-ltb (suc m) (suc n) (up (leb-true n m h))) (equal (leb-true n m h))
    where
      up : n ≤ m → suc n ≤ suc m
      up l = omega arith

      equal : n ≤ m → suc m - suc n ≡ b - suc n - (b - suc m)
      equal l = omega arith

  pub ordinal_one : (x y : ℤ) → mag x < b → mag y < b → ordinal b x ≡ ordinal b y → x ≡ y
  unfolding ordinal
  ordinal_one (pos m) (pos n) hx hy e = let q : m ≡ n = omega arith in rw q
  ordinal_one (pos m) (negsuc n) hx hy e = absurd (omega arith)
  ordinal_one (negsuc m) (pos n) hx hy e = absurd (omega arith)
  ordinal_one (negsuc m) (negsuc n) hx hy e = let q : m ≡ n = omega arith in rw q

-- one time is before another exactly where the other is not at or before it
pub before_not_after : (s t : ℤ) → lt_z s t ≡ not (le_z t s)
before_not_after (pos m) (pos n) = by_test (leb n m) (λ h. rw (h, le-ltb m n (leb-true n m h))) (λ h. rw (h, lt-ltb m n (leb-false n m h)))
before_not_after (pos m) (negsuc n) = refl
before_not_after (negsuc m) (pos n) = refl
before_not_after (negsuc m) (negsuc n) = by_test (leb m n) (λ h. rw (h, le-ltb n m (leb-true m n h))) (λ h. rw (h, lt-ltb n m (leb-false m n h)))

pub before_at_most : (s t : ℤ) → lt_z s t ≡ true → le_z s t ≡ true
before_at_most (pos m) (pos n) h = le-leb m n (le_of_lt (ltb-true m n h))
before_at_most (pos m) (negsuc n) h = h
before_at_most (negsuc m) (pos n) h = h
before_at_most (negsuc m) (negsuc n) h = le-leb n m (le_of_lt (ltb-true n m h))

-- what is later than a time after t is after t
pub after-later : (a b t : ℤ) → lt_z a b ≡ true → le_z a t ≡ false → le_z b t ≡ false
after-later (pos a) (pos b) (pos t) h k = lt-leb b t (omega (arith, ltb-true a b h, leb-false a t k))
after-later (pos a) (pos b) (negsuc t) h k = refl
after-later (pos a) (negsuc b) t h k = absurd (not_both h refl)
after-later (negsuc a) (pos b) (pos t) h k = absurd (not_both refl k)
after-later (negsuc a) (pos b) (negsuc t) h k = refl
after-later (negsuc a) (negsuc b) (pos t) h k = absurd (not_both refl k)
after-later (negsuc a) (negsuc b) (negsuc t) h k = lt-leb t b (omega (arith, ltb-true b a h, leb-false t a k))

-- d after t is still at or before z
pub later_within : (t z : ℤ) (d : ℕ) → le_z t z ≡ true → le_z (later t d) z ≡ leb d (elapsed t z)
later_within t z d h =
    let b = suc (mag (later t d) + mag t + mag z) in
    let ht : mag t < b = omega arith in
    let hz : mag z < b = omega arith in
    let hl : mag (later t d) < b = omega arith in
    let up : ordinal b t ≤ ordinal b z = leb-true _ _ (sym (ordinal_le b t z ht hz) ∙ h) in
    ordinal_le b (later t d) z hl hz ∙ rw (ordinal_later b t d ht, ordinal_elapsed b t z ht hz h) (moved (ordinal b t) (ordinal b z) up)
  where
    moved : (x y : ℕ) → x ≤ y → leb (x + d) y ≡ leb d (y - x)
    moved x y u =
        same_test (leb (x + d) y) (leb d (y - x))
        (λ t. le-leb d (y - x) (let k = leb-true (x + d) y t in omega arith))
        (λ t. le-leb (x + d) y (let k = leb-true d (y - x) t in omega arith))
