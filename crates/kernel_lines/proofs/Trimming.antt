-- What is dropped at the end of a line, as the code meets it.
use Prim.Native.Nat.{ℕ, zero, suc, ◌-◌, ◌≤◌, ◌<◌}
use mathlib.Core.Path.{◌≡◌, sym, ap, ◌∙◌}
use mathlib.Core.Bool.{Bool, true, false, cond}
use mathlib.Core.List.{List}
use lib.ListN.{length, get_or}
use borrow.Author.Tests.{eq-eqb, ne_eqb}
use native.Mathlib.Omega.{arith}
use Rattle.base.proofs.Tests.{by_test}
use Rattle.rules.specs.Text.{is_blank}
use Rattle.kernel_rules.specs.Lines.{is_return, trim_to, trim_one, kept_of}

last_of : (i : ℕ) → 0 < i → i ≡ suc (i - 1)
last_of i h = omega arith

module _ (p : ℕ → Bool) (l : List ℕ) where
  pub trim_within : (n : ℕ) → trim_to p l n ≤ n
  unfolding trim_to
  trim_within zero = omega arith
  trim_within (suc n) = by_test (p (get_or l n 0)) (λ t. rw t (omega (arith, trim_within n))) (λ f. rw f (omega arith))

  pub one_within : (n : ℕ) → trim_one p l n ≤ n
  unfolding trim_one
  one_within zero = omega arith
  one_within (suc n) = by_test (p (get_or l n 0)) (λ t. rw t (omega arith)) (λ f. rw f (omega arith))

  -- one byte less, the last of the first i
  trim_one_lem : (i : ℕ) → 0 < i → trim_to p l i ≡ cond (p (get_or l (i - 1) 0)) (trim_to p l (i - 1)) i
  unfolding trim_to
  trim_one_lem i h = ap (trim_to p l) (last_of i h) ∙ step (i - 1) i (sym (last_of i h))
    where
      step : (n k : ℕ) → suc n ≡ k → trim_to p l (suc n) ≡ cond (p (get_or l n 0)) (trim_to p l n) k
      step n k e = rw e

  drop_one : (i : ℕ) → 0 < i → trim_one p l i ≡ cond (p (get_or l (i - 1) 0)) (i - 1) i
  unfolding trim_one
  drop_one i h = ap (trim_one p l) (last_of i h) ∙ step (i - 1) i (sym (last_of i h))
    where
      step : (n k : ℕ) → suc n ≡ k → trim_one p l (suc n) ≡ cond (p (get_or l n 0)) n k
      step n k e = rw e

  module _ (R i : ℕ) (e : R ≡ trim_to p l i) where
    pub trim_turn : 0 < i → p (get_or l (i - 1) 0) ≡ true → R ≡ trim_to p l (i - 1)
    trim_turn h t = e ∙ trim_one_lem i h ∙ rw t

    pub trim_stop : 0 < i → p (get_or l (i - 1) 0) ≡ false → i ≡ R
    trim_stop h f = sym (e ∙ trim_one_lem i h ∙ rw f)

    pub trim_none : i ≤ 0 → i ≡ R
    unfolding trim_to
    trim_none h = let z : i ≡ 0 = omega arith in z ∙ sym (e ∙ rw z)

-- at most one 13
module _ (l : List ℕ) (n : ℕ) where
  pub return_none : n ≤ 0 → n ≡ trim_one is_return l n
  unfolding trim_one
  return_none h = let z : n ≡ 0 = omega arith in rw z

  pub return_here : 0 < n → get_or l (n - 1) 0 ≡ 13 → n - 1 ≡ trim_one is_return l n
  return_here h b = sym (drop_one is_return l n h ∙ rw (eq-eqb _ _ b))

  pub return_other : 0 < n → (get_or l (n - 1) 0 ≡ 13 → ⊥) → n ≡ trim_one is_return l n
  return_other h b = sym (drop_one is_return l n h ∙ rw (ne_eqb _ _ b))

pub kept_is : (l : List ℕ) (i j r : ℕ) → i ≡ trim_to is_blank l (length l) → j ≡ trim_one is_return l i → r ≡ trim_to is_blank l j → r ≡ kept_of l
unfolding kept_of
kept_is l i j r p q e = e ∙ rw (q, p)

pub kept_within : (l : List ℕ) → kept_of l ≤ length l
unfolding kept_of
kept_within l =
    omega (
      arith,
      trim_within is_blank l (length l),
      one_within is_return l (trim_to is_blank l (length l)),
      trim_within is_blank l (trim_one is_return l (trim_to is_blank l (length l))),
    )
