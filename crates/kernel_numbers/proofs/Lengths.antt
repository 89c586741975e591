-- The places of a number stand in order, and its digits are below a power of ten.
use Prim.Native.Nat.{ℕ, ◌+◌, ◌-◌, ◌*◌, ◌^◌, ◌≤◌, ◌<◌}
use mathlib.Core.Path.{◌≡◌, refl}
use mathlib.Core.Bool.{Bool, true, false}
use mathlib.Core.List.{List, [], ◌∷◌}
use lib.Dec.{ltb, leb}
use lib.ListN.{length, drop, get_or, length-drop, get_or-eq_default}
use lib.Pow.{pow-add}
use native.Mathlib.Nat.{mul_assoc, mul-le-mul_right, pow-succ'}
use native.Mathlib.Numerals.{add-one}
use native.Mathlib.Omega.{arith}
use borrow.Author.Tests.{leb-true, ltb-true, ltb-false}
use Rattle.base.proofs.Tests.{by_test, and_second, not_both}
use Rattle.rules.specs.Text.{is_digit}
use Rattle.kernel_rules.specs.Lines.{span}
use Rattle.kernel_rules.specs.Numbers.{is_sign, is_point, after_one, after_digits, sign_end, whole_end, point_end, decimals_end, followed, digits_of}
use Rattle.kernel_numbers.proofs.Quotients.{ten_le}

pub digit_below : (b : ℕ) → is_digit b ≡ true → b - 48 < 10
digit_below b t = omega (arith, leb-true b 57 (and_second (leb 48 b) (leb b 57) t))

span_le : (p : ℕ → Bool) (s : List ℕ) → span p s ≤ length s
unfolding span
span_le p [] = omega arith
span_le p (b ∷ s) = by_test (p b) (λ t. rw t (omega (arith, span_le p s))) (λ f. rw f (omega arith))

-- n followed by j digits is below (n + 1) · 10^j
followed_below : (s : List ℕ) (n : ℕ) → followed n s < (n + 1) * 10 ^ span is_digit s
unfolding followed span
followed_below [] n = omega arith
followed_below (b ∷ s) n = by_test (is_digit b) (λ t. rw t (less (digit_below b t) (followed_below s (n * 10 + (b - 48))))) (λ f. rw f (omega arith))
  where
    less : b - 48 < 10 → followed (n * 10 + (b - 48)) s < (n * 10 + (b - 48) + 1) * 10 ^ span is_digit s → followed (n * 10 + (b - 48)) s < (n + 1) * 10 ^ (span is_digit s + 1)
    less d h = omega (arith, power, mul-le-mul_right {m = n * 10 + (b - 48) + 1} {n = (n + 1) * 10} (10 ^ span is_digit s) (omega arith))
      where
        power : (n + 1) * 10 ^ (span is_digit s + 1) ≡ (n + 1) * 10 * 10 ^ span is_digit s
        power = rw (add-one (span is_digit s), pow-succ' 10 (span is_digit s), ← mul_assoc (n + 1) 10 (10 ^ span is_digit s))

both_below : (s : List ℕ) (a c : ℕ) → a + span is_digit (drop a s) ≤ c → c ≤ length s → followed (followed 0 (drop a s)) (drop c s) < 10 ^ length s
both_below s a c h l = omega (arith, followed_below (drop c s) (followed 0 (drop a s)), product, pow-add 10 i j, ten_le (i + j) (length s) (omega (arith, span_le is_digit (drop c s), length-drop c s)))
  where
    i : ℕ
    i = span is_digit (drop a s)

    j : ℕ
    j = span is_digit (drop c s)

    product : (followed 0 (drop a s) + 1) * 10 ^ j ≤ 10 ^ i * 10 ^ j
    product = mul-le-mul_right {m = followed 0 (drop a s) + 1} {n = 10 ^ i} (10 ^ j) (omega (arith, followed_below (drop a s) 0))

one_from : (p : ℕ → Bool) (s : List ℕ) (i : ℕ) → i ≤ after_one p s i
unfolding after_one
one_from p s i = by_test (p (get_or s i 0)) (λ t. rw t (omega arith)) (λ f. rw f (omega arith))

one_to : (p : ℕ → Bool) (s : List ℕ) (i : ℕ) → p 0 ≡ false → i ≤ length s → after_one p s i ≤ length s
unfolding after_one
one_to p s i z h =
    by_test (p (get_or s i 0))
    (λ t. rw t (by_test (ltb i (length s)) (λ l. omega (arith, ltb-true i (length s) l)) (λ f. absurd (not_both t (rw (get_or-eq_default s 0 (ltb-false i (length s) f)) z)))))
    (λ f. rw f h)

digits_to : (s : List ℕ) (i : ℕ) → i ≤ length s → after_digits s i ≤ length s
unfolding after_digits
digits_to s i h = omega (arith, span_le is_digit (drop i s), length-drop i s)

module _ (s : List ℕ) where
  whole_to : whole_end s ≤ length s
  unfolding whole_end sign_end
  whole_to = digits_to s (after_one is_sign s 0) (one_to is_sign s 0 refl (omega arith))

  point_to : point_end s ≤ length s
  unfolding point_end
  point_to = one_to is_point s (whole_end s) refl whole_to

  pub decimals_to : decimals_end s ≤ length s
  unfolding decimals_end
  decimals_to = digits_to s (point_end s) point_to

  whole_from : sign_end s + span is_digit (drop (sign_end s) s) ≤ point_end s
  unfolding point_end whole_end after_digits
  whole_from = one_from is_point s (sign_end s + span is_digit (drop (sign_end s) s))

  pub digits_below : digits_of s < 10 ^ length s
  unfolding digits_of
  digits_below = both_below s (sign_end s) (point_end s) whole_from point_to
