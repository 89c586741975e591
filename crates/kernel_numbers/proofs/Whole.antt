-- The number as a whole: the places, the digits kept and the capped exponent give the definition's answer.
use Prim.Native.Nat.{ℕ, ◌+◌, ◌-◌, ◌*◌, ◌^◌, ◌≤◌, ◌<◌, min}
use mathlib.Core.Path.{◌≡◌, ap, ◌∙◌}
use mathlib.Core.Bool.{Bool, true, false, not, ◌&&◌, ◌||◌, cond}
use mathlib.Core.List.{List}
use lib.Dec.{eqb, ltb, leb}
use lib.ListN.{length, drop, get_or}
use native.Mathlib.Omega.{arith}
use borrow.Author.Tests.{leb-true, leb-false, le-leb, lt-leb, not-true, not-false}
use Rattle.base.proofs.Tests.{by_test}
use Rattle.kernel_rules.specs.declared.Number.{Number}
use Rattle.kernel_rules.specs.declared.Number.TheVariants.{Malformed}
use Rattle.kernel_rules.specs.Lines.{longest_line}
use Rattle.kernel_rules.specs.Numbers.{is_sign, is_point, is_letter, is_minus, after_one, after_digits, sign_end, whole_end, point_end, decimals_end, letter_end, power_sign_end, power_end, has_form, is_number, followed, digits_of, power_of, is_power_minus, value_in, number_in}
use Rattle.std.specs.Prelude.{Option, Some}
use Rattle.kernel_numbers.specs.declared.Digits.{Digits}
use Rattle.kernel_numbers.specs.Pass.{digits, digits_from, power_cap, power_sign_after, minus_after, value_of}
use Rattle.kernel_numbers.proofs.Quotients.{Means, more_up, more_down}
use Rattle.kernel_numbers.proofs.Lengths.{decimals_to, digits_below}
use Rattle.kernel_numbers.proofs.Exact.{value_is}
use Rattle.kernel_numbers.proofs.Keeps.{Keeps, keeps_none, keeps_run, kept_means}

-- an exponent at the cap gives what the true one gives
module _ (m : Bool) (r : Number) (len n k p x : ℕ) (l : n < 10 ^ len) (short : len ≤ longest_line) (few : k ≤ 12) (places : p ≤ len) where
  capped_means : (down : Bool) → Means m (n * 10 ^ (k + cond down 0 (min x power_cap))) (10 ^ (p + cond down (min x power_cap) 0)) r → Means m (n * 10 ^ (k + cond down 0 x)) (10 ^ (p + cond down x 0)) r
  capped_means down h = by_test (leb x power_cap) (λ t. rw (within (leb-true x power_cap t)) at h) (λ f. past down (leb-false x power_cap f) h)
    where
      within : x ≤ power_cap → min x power_cap ≡ x
      within i = omega arith

      past : (b : Bool) → power_cap < x → Means m (n * 10 ^ (k + cond b 0 (min x power_cap))) (10 ^ (p + cond b (min x power_cap) 0)) r → Means m (n * 10 ^ (k + cond b 0 x)) (10 ^ (p + cond b x 0)) r
      past true i = more_down m n (k + 0) (p + x) (p + min x power_cap) len r l (omega arith) (omega arith)
      past false i = more_up m n (k + x) (k + min x power_cap) (p + 0) r (omega arith) (omega arith)

pub capped_value : (K : Option Digits) (k : ℕ) (s : List ℕ) → Keeps (digits_of s) K → length s ≤ longest_line → k ≤ 12
    → value_of (is_minus (get_or s 0 0)) K (k + cond (is_power_minus s) 0 (min (power_of s) power_cap)) ((decimals_end s - point_end s) + cond (is_power_minus s) (min (power_of s) power_cap) 0) ≡ value_in k s
capped_value K k s keeps short few =
    value_is k s _
    (capped_means (is_minus (get_or s 0 0)) _ (length s) (digits_of s) k (decimals_end s - point_end s) (power_of s) (digits_below s) short few (omega (arith, decimals_to s)) (is_power_minus s)
    (kept_means (is_minus (get_or s 0 0)) K (digits_of s) (k + cond (is_power_minus s) 0 (min (power_of s) power_cap)) ((decimals_end s - point_end s) + cond (is_power_minus s) (min (power_of s) power_cap) 0) keeps))

-- the places, as the code finds them one after another
module _ (s : List ℕ) (a b c d e f g : ℕ)
    (pa : a ≡ after_one is_sign s 0) (pb : b ≡ after_digits s a) (pc : c ≡ after_one is_point s b) (pd : d ≡ after_digits s c)
    (pe : e ≡ after_one is_letter s d) (pf : f ≡ power_sign_after s d e) (pg : g ≡ after_digits s f) where
  is_a : a ≡ sign_end s
  unfolding sign_end
  is_a = pa

  is_b : b ≡ whole_end s
  unfolding whole_end
  is_b = pb ∙ ap (after_digits s) is_a

  is_c : c ≡ point_end s
  unfolding point_end
  is_c = pc ∙ ap (after_one is_point s) is_b

  is_d : d ≡ decimals_end s
  unfolding decimals_end
  is_d = pd ∙ ap (after_digits s) is_c

  is_e : e ≡ letter_end s
  unfolding letter_end
  is_e = pe ∙ ap (after_one is_letter s) is_d

  is_f : f ≡ power_sign_end s
  unfolding power_sign_end power_sign_after
  is_f = pf ∙ rw (is_d, is_e)

  is_g : g ≡ power_end s
  unfolding power_end
  is_g = pg ∙ ap (after_digits s) is_f

  is_minus_lem : minus_after s d e ≡ is_power_minus s
  unfolding minus_after is_power_minus
  is_minus_lem = rw (is_d, is_e)

  is_power : min (followed 0 (drop f s)) power_cap ≡ min (power_of s) power_cap
  unfolding power_of
  is_power = rw is_f

  pub form_is : (w : Bool) → w ≡ (ltb 0 ((b - a) + (d - c)) && (eqb e d || ltb f g) && eqb g (length s)) → w ≡ has_form s
  unfolding has_form
  form_is w i = i ∙ rw (is_a, is_b, is_c, is_d, is_e, is_f, is_g)

  pub number_bad : (k : ℕ) (w : Bool) → length s ≤ longest_line → w ≡ (ltb 0 ((b - a) + (d - c)) && (eqb e d || ltb f g) && eqb g (length s)) → not w ≡ true → Malformed ≡ number_in k s
  unfolding number_in is_number
  number_bad k w short i n = rw (le-leb (length s) longest_line short, ← form_is w i, not-true w n)

  module _ (whole both : Option Digits) (eb : whole ≡ digits_from (Some (digits 0 0)) (drop a s)) (ed : both ≡ digits_from whole (drop c s)) where
    kept : Keeps (digits_of s) both
    unfolding digits_of
    kept = rw (ed, eb, is_a, is_c) (keeps_run (drop (point_end s) s) _ _ (keeps_run (drop (sign_end s) s) 0 (Some (digits 0 0)) keeps_none))

    pub number_good : (k : ℕ) (w down : Bool) (z x : ℕ) (r : Number) → length s ≤ longest_line → k ≤ 12
        → w ≡ (ltb 0 ((b - a) + (d - c)) && (eqb e d || ltb f g) && eqb g (length s)) → not w ≡ false
        → z ≡ get_or s 0 0 → down ≡ minus_after s d e → x ≡ min (followed 0 (drop f s)) power_cap
        → r ≡ value_of (eqb z 45) both (k + cond down 0 x) ((d - c) + cond down x 0) → r ≡ number_in k s
    unfolding number_in is_number
    number_good k w down z x r short few i n ez em ex er = er ∙ rw (le-leb (length s) longest_line short, ← form_is w i, not-false w n, ez, em ∙ is_minus_lem, ex ∙ is_power, is_c, is_d) (capped_value both k s kept short few)

-- longer than a line
pub long_number : (k : ℕ) (s : List ℕ) → longest_line < length s → Malformed ≡ number_in k s
unfolding number_in is_number
long_number k s h = rw (lt-leb (length s) longest_line h)
