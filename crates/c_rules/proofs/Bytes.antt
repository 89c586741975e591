-- The numbers of a byte list, one by one.
use Prim.Native.Nat.{ℕ, zero, suc, ◌+◌, ◌*◌, ◌/◌, ◌%◌, ◌≤◌, ◌<◌}
use mathlib.Core.Path.{◌≡◌, refl, sym, ap, ◌∙◌}
use mathlib.Core.List.{List, [], ◌∷◌, map}
use native.Mathlib.Omega.{arith}
use lib.Dec.{eqb}
use lib.IntN.{ℤ, pos}
use lib.ListN.{length, get_or, take, drop}
use lib.Seq.{drop-drop}
use borrow.Author.Tests.{eq-eqb, ne_eqb}
use Rattle.base.proofs.Tests.{by_test}
use Rattle.c_rules.specs.Numbers.{little, numbers_in, eights, numbers, signed_of, times}

length_eights : (k : ℕ) (s : List ℕ) → length (eights k s) ≡ k
unfolding eights
length_eights zero s = refl
length_eights (suc k) s = ap suc (length_eights k (drop 8 s))

at_eights : (k : ℕ) (s : List ℕ) (i : ℕ) → i < k → get_or (eights k s) i 0 ≡ little (take 8 (drop (8 * i) s))
unfolding eights
at_eights zero s i h = absurd (omega arith)
at_eights (suc k) s zero h = refl
at_eights (suc k) s (suc i) h =
    at_eights k (drop 8 s) i (omega arith) ∙ ap (λ (l : List ℕ). little (take 8 l)) (drop-drop (8 * i) 8 s ∙ ap (λ (j : ℕ). drop j s) next)
  where
    next : 8 + 8 * i ≡ 8 * suc i
    next = omega arith

pub length_numbers : (s : List ℕ) → length (numbers s) ≡ numbers_in s
unfolding numbers
length_numbers s = length_eights (numbers_in s) s

pub in_eights : (s : List ℕ) → length s % 8 ≡ 0 → length s / 8 ≡ length (numbers s)
unfolding numbers_in
in_eights s h = sym (length_numbers s ∙ rw (eq-eqb _ _ h))

pub not_in_eights : (s : List ℕ) → (length s % 8 ≡ 0 → ⊥) → 0 ≡ length (numbers s)
unfolding numbers_in
not_in_eights s h = sym (length_numbers s ∙ rw (ne_eqb _ _ h))

most : (s : List ℕ) → 8 * numbers_in s ≤ length s
unfolding numbers_in
most s = by_test (eqb (length s % 8) 0) (λ t. rw t (omega arith)) (λ f. rw f (omega arith))

module _ (s : List ℕ) (i : ℕ) (h : i < length (numbers s)) where
  -- its eight bytes are there
  pub inside : 8 * i + 8 ≤ length s
  inside = omega (arith, most s, length_numbers s)

  pub number_is : (r : ℕ) → r ≡ little (take 8 (drop (8 * i) s)) → r ≡ get_or (numbers s) i 0
  unfolding numbers
  number_is r e = e ∙ sym (at_eights (numbers_in s) s i (rw (length_numbers s) at h))

length_map : {A B : Type 0} (f : A → B) (xs : List A) → length (map f xs) ≡ length xs
length_map f [] = refl
length_map f (x ∷ xs) = ap suc (length_map f xs)

at_map : {A B : Type 0} (f : A → B) (xs : List A) (i : ℕ) (a : A) (b : B) → i < length xs → get_or (map f xs) i b ≡ f (get_or xs i a)
at_map f [] i a b h = absurd (omega arith)
at_map f (x ∷ xs) zero a b h = refl
at_map f (x ∷ xs) (suc i) a b h = at_map f xs i a b (omega arith)

pub length_times : (s : List ℕ) → length (times s) ≡ length (numbers s)
unfolding times
length_times s = length_map signed_of (numbers s)

module _ (s : List ℕ) (i : ℕ) (h : i < length (times s)) where
  pub time_inside : i < length (numbers s)
  time_inside = rw (length_times s) at h

  pub time_is : (w : ℕ) (r : ℤ) → w ≡ get_or (numbers s) i 0 → r ≡ signed_of w → r ≡ get_or (times s) i (pos 0)
  unfolding times
  time_is w r e q = q ∙ rw e (sym (at_map signed_of (numbers s) i 0 (pos 0) time_inside))

-- as many times as numbers
pub times_rows : (s : List ℕ) (m : ℕ) → m ≡ length (numbers s) → m ≡ length (times s)
times_rows s m e = e ∙ sym (length_times s)
