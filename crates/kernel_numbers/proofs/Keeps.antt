-- What the code keeps of a run of digits is enough to tell its exact quotient.
use Prim.Native.Nat.{ℕ, zero, suc, ◌+◌, ◌-◌, ◌*◌, ◌%◌, ◌^◌, ◌≤◌, ◌<◌}
use mathlib.Core.Path.{◌≡◌, refl, ◌∙◌}
use mathlib.Core.Bool.{Bool}
use mathlib.Core.List.{List, [], ◌∷◌}
use lib.Dec.{eqb, ltb}
use lib.Pow.{pow-add}
use native.Mathlib.Nat.{pow-suc, mul-one, mul_assoc, mul_comm, mul-le-mul, le_of_mul-le-mul_right, eq_of_mul-eq-mul_right, mul-mod_left}
use native.Mathlib.Numerals.{add-one}
use native.Mathlib.Omega.{arith}
use borrow.Author.Tests.{ne_eqb, eqb-true, eqb-false, ltb-true, ltb-false}
use Rattle.base.proofs.Tests.{by_test}
use Rattle.rules.specs.Text.{is_digit}
use Rattle.kernel_rules.specs.Numbers.{followed}
use Rattle.std.specs.Prelude.{Option, Some, None}
use Rattle.kernel_numbers.specs.declared.Digits.{Digits}
use Rattle.kernel_numbers.specs.Pass.{digits, beyond, with_digit, digits_from, value_of}
use Rattle.kernel_numbers.proofs.Lengths.{digit_below}
use Rattle.kernel_numbers.proofs.Quotients.{Means, means_none, quotient_means, apart, ten_pos, ten_le, ten_split}

-- no quotient of n by a power of ten has room
abbrev Over : ℕ → Type 0
Over n = (q j : ℕ) → n ≡ q * 10 ^ j → 2 ^ 64 ≤ q

-- n is the head with its zeros behind it, which it has where there is no room for one more digit; or no head has room
unfoldable pub Keeps : ℕ → Option Digits → Type 0
Keeps n None = Over n
Keeps n (Some k) = (n ≡ k.head * 10 ^ k.zeros) × (0 < k.zeros → 2 ^ 64 ≤ k.head * 10)

pub keeps_none : Keeps 0 (Some (digits 0 0))
unfolding Keeps
keeps_none = (refl, λ h. absurd (omega arith))

over_self : (n : ℕ) → Over n → 2 ^ 64 ≤ n
over_self n o = o n 0 (omega arith)

-- a number that does not end in 0 is its own head
over_odd : (n : ℕ) → (n % 10 ≡ 0 → ⊥) → 2 ^ 64 ≤ n → Over n
over_odd n odd l q zero e = rw (mul-one q) at (rw e at l)
over_odd n odd l q (suc j) e = absurd (odd (rw e (ends q j)))
  where
    ends : (x i : ℕ) → x * 10 ^ suc i % 10 ≡ 0
    ends x i = rw (pow-suc 10 i, ← mul_assoc x (10 ^ i) 10) (mul-mod_left (x * 10 ^ i) 10)

over_zero : (n : ℕ) → Over n → Over (n * 10)
over_zero n o q zero e = omega (arith, over_self n o)
over_zero n o q (suc j) e = o q j (eq_of_mul-eq-mul_right 10 (omega arith) n (q * 10 ^ j) (e ∙ rw (pow-suc 10 j, ← mul_assoc q (10 ^ j) 10)))

-- where there is no room for d
module _ (n h z d : ℕ) (l : d < 10) (e : n ≡ h * 10 ^ z) where
  tens : n * 10 ≡ h * 10 ^ (z + 1)
  tens = rw (e, add-one z, pow-suc 10 z, mul_assoc h (10 ^ z) 10)

  behind : 2 ^ 64 ≤ h * 10 + d → (0 < z → 2 ^ 64 ≤ h * 10) → 2 ^ 64 ≤ n * 10 + d
  behind f g = by_test (eqb z 0) (λ t. omega (arith, e, none (eqb-true _ _ t))) (λ i. omega (arith, e, g (some (eqb-false _ _ i)), grown (10 ^ z) (ten_pos z)))
    where
      none : z ≡ 0 → h * 10 ^ z ≡ h
      none i = rw (i, mul-one h)

      some : (z ≡ 0 → ⊥) → 0 < z
      some i = omega arith

      grown : (x : ℕ) → 0 < x → h ≤ h * x
      grown x i = omega (arith, mul-le-mul {n₁ = h} {m₁ = 1} {n₂ = h} {m₂ = x} (omega arith) i)

  pub beyond_keeps : 2 ^ 64 ≤ h * 10 + d → (0 < z → 2 ^ 64 ≤ h * 10) → Keeps (n * 10 + d) (beyond h z d)
  unfolding beyond Keeps
  beyond_keeps f g =
      by_test (eqb d 0)
      (λ t. rw t (zero_more (eqb-true _ _ t), λ _. full (eqb-true _ _ t)))
      (λ i. rw i (over_odd (n * 10 + d) (odd (eqb-false _ _ i)) (behind f g)))
    where
      zero_more : d ≡ 0 → n * 10 + d ≡ h * 10 ^ (z + 1)
      zero_more i = omega (arith, tens)

      full : d ≡ 0 → 2 ^ 64 ≤ h * 10
      full i = omega arith

      odd : (d ≡ 0 → ⊥) → (n * 10 + d) % 10 ≡ 0 → ⊥
      odd i j = omega arith

keeps_over : (n d : ℕ) → d < 10 → Over n → Over (n * 10 + d)
keeps_over n d l k = by_test (eqb d 0) (λ t. rw (plain (eqb-true _ _ t)) (over_zero n k)) (λ f. over_odd (n * 10 + d) (odd (eqb-false _ _ f)) more)
  where
    plain : d ≡ 0 → n * 10 + d ≡ n * 10
    plain e = omega arith

    odd : (d ≡ 0 → ⊥) → (n * 10 + d) % 10 ≡ 0 → ⊥
    odd f e = omega arith

    more : 2 ^ 64 ≤ n * 10 + d
    more = omega (arith, over_self n k)

keeps_more : (n h z d : ℕ) → d < 10 → Keeps n (Some (digits h z)) → Keeps (n * 10 + d) (with_digit (Some (digits h z)) d)
unfolding with_digit Keeps
keeps_more n h zero d l k =
    by_test (ltb (h * 10 + d) (2 ^ 64))
    (λ t. rw t (omega (arith, k.0), λ i. absurd (omega arith)))
    (λ f. rw f (beyond_keeps n h 0 d l k.0 (ltb-false _ _ f) k.1))
keeps_more n h (suc z) d l k =
    rw (ne_eqb (suc z) 0 (λ e. omega arith)) (beyond_keeps n h (suc z) d l k.0 (omega (arith, k.1 (omega arith))) k.1)

keeps_digit : (D : Option Digits) (n d : ℕ) → d < 10 → Keeps n D → Keeps (n * 10 + d) (with_digit D d)
unfolding with_digit Keeps
keeps_digit None n d l k = keeps_over n d l k
keeps_digit (Some q) n d l k = keeps_more n q.head q.zeros d l k

pub keeps_run : (s : List ℕ) (n : ℕ) (k : Option Digits) → Keeps n k → Keeps (followed n s) (digits_from k s)
unfolding followed digits_from
keeps_run [] n k h = h
keeps_run (b ∷ s) n k h =
    by_test (is_digit b)
    (λ t. rw t (keeps_run s (n * 10 + (b - 48)) (with_digit k (b - 48)) (keeps_digit k n (b - 48) (digit_below b t) h)))
    (λ f. rw f h)

pub kept_means : (m : Bool) (D : Option Digits) (n up down : ℕ) → Keeps n D → Means m (n * 10 ^ up) (10 ^ down) (value_of m D up down)
unfolding Keeps value_of
kept_means m None n up down k = means_none m (n * 10 ^ up) (10 ^ down) (λ q e. by_test (ltb up down) (λ t. omega (arith, low q e.1 (ltb-true _ _ t), e.0)) (λ f. omega (arith, high q e.1 (ltb-false _ _ f), e.0)))
  where
    low : (q : ℕ) → n * 10 ^ up ≡ q * 10 ^ down → up < down → 2 ^ 64 ≤ q
    low q e l = k q (down - up) (eq_of_mul-eq-mul_right (10 ^ up) (ten_pos up) n (q * 10 ^ (down - up)) (e ∙ rw (ten_split up down (omega arith), mul_assoc q (10 ^ (down - up)) (10 ^ up))))

    high : (q : ℕ) → n * 10 ^ up ≡ q * 10 ^ down → down ≤ up → 2 ^ 64 ≤ q
    high q e l = omega (arith, over_self n k, le_of_mul-le-mul_right {m = n} {n = q} {k = 10 ^ down} (omega (arith, e, mul-le-mul {n₁ = n} {m₁ = 10 ^ down} {n₂ = n} {m₂ = 10 ^ up} (omega arith) (ten_le down up l))) (ten_pos down))
kept_means m (Some q) n up down k = rw all (apart m q.head (up + q.zeros) down _ (quotient_means m (q.head * 10 ^ ((up + q.zeros) - down)) (10 ^ (down - (up + q.zeros))) (ten_pos (down - (up + q.zeros)))))
  where
    all : n * 10 ^ up ≡ q.head * 10 ^ (up + q.zeros)
    all = rw (k.0, mul_assoc q.head (10 ^ q.zeros) (10 ^ up), mul_comm (10 ^ q.zeros) (10 ^ up), ← pow-add 10 up q.zeros)
