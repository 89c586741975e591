-- The value of a number without caps: the whole number q below 2^64 with digits × 10^up ≡ q × 10^down, or Inexact where there is none.
-- Assumes nothing: neither that the bytes are a number nor that they have room in a line.
use Prim.Native.Nat.{ℕ, ◌+◌, ◌-◌, ◌*◌, ◌^◌}
use mathlib.Core.Path.{◌≡◌, sym, subst, ◌∙◌}
use mathlib.Core.Bool.{Bool, true, false, cond}
use mathlib.Core.List.{List}
use mathlib.Core.Logic.{⊎_elim}
use lib.ListN.{length, get_or}
use native.Mathlib.Omega.{arith}
use Rattle.kernel_rules.specs.declared.Number.{Number}
use Rattle.kernel_rules.specs.declared.Number.TheVariants.{Inexact}
use Rattle.kernel_rules.specs.Numbers.{is_minus, point_end, decimals_end, digits_of, power_of, is_power_minus, with_sign, value_in}
use Rattle.kernel_numbers.proofs.Quotients.{Quotient, Means, means_exact, means_none, means_unique, scaled_means, ten_pos}
use Rattle.kernel_numbers.proofs.Lengths.{digits_below}

abbrev pub up_of : ℕ → List ℕ → ℕ
up_of k s = k + cond (is_power_minus s) 0 (power_of s)

abbrev pub down_of : List ℕ → ℕ
down_of s = (decimals_end s - point_end s) + cond (is_power_minus s) (power_of s) 0

-- q units of 10^-k are the number
abbrev pub Units : ℕ → List ℕ → ℕ → Type 0
Units k s q = Quotient (digits_of s * 10 ^ up_of k s) (10 ^ down_of s) q

value_means : (k : ℕ) (s : List ℕ) → Means (is_minus (get_or s 0 0)) (digits_of s * 10 ^ up_of k s) (10 ^ down_of s) (value_in k s)
unfolding value_in
value_means k s = scaled_means (is_minus (get_or s 0 0)) (length s) (digits_of s) (up_of k s) (down_of s) (digits_below s)

pub value_is : (k : ℕ) (s : List ℕ) (r : Number) → Means (is_minus (get_or s 0 0)) (digits_of s * 10 ^ up_of k s) (10 ^ down_of s) r → r ≡ value_in k s
value_is k s r h = means_unique _ _ _ r (value_in k s) (ten_pos (down_of s)) h (value_means k s)

with_sign_one : (m : Bool) (p q : ℕ) → with_sign m p ≡ with_sign m q → p ≡ q
unfolding with_sign
with_sign_one true p q e = cc
with_sign_one false p q e = cc

with_sign_exact : (m : Bool) (q : ℕ) → with_sign m q ≡ Inexact → ⊥
unfolding with_sign
with_sign_exact true q e = let z : ◌≡◌ {A = ℕ} 0 1 = cc in omega arith
with_sign_exact false q e = let z : ◌≡◌ {A = ℕ} 0 1 = cc in omega arith

pub record ExactValue (k : ℕ) (s : List ℕ) : Type 0 where
  pub exact : (q : ℕ) → Units k s q → value_in k s ≡ with_sign (is_minus (get_or s 0 0)) q
  pub exact_only : (q : ℕ) → value_in k s ≡ with_sign (is_minus (get_or s 0 0)) q → Units k s q
  pub inexact : ((q : ℕ) → Units k s q → ⊥) → value_in k s ≡ Inexact
  pub inexact_only : value_in k s ≡ Inexact → (q : ℕ) → Units k s q → ⊥

pub exact_value : (k : ℕ) (s : List ℕ) → ExactValue k s
unfolding Means
exact_value k s =
    record {
      exact = λ q h. sym (value_is k s _ (means_exact _ _ _ q h));
      exact_only = λ q e. ⊎_elim (λ h. subst (Units k s) (with_sign_one _ h.0 q (sym h.1 ∙ e)) h.2) (λ h. absurd (with_sign_exact _ q (sym e ∙ h.0))) (value_means k s);
      inexact = λ f. sym (value_is k s _ (means_none _ _ _ f));
      inexact_only = λ e. ⊎_elim (λ h. absurd (with_sign_exact _ h.0 (sym h.1 ∙ e))) (λ h. h.1) (value_means k s);
    }
