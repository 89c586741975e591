-- What is stored of a list, and what its front is afterwards.
--     stored_all        storing from the first row on
--     stored_front      what the lent list then begins with
use Prim.Native.Nat.{ℕ, suc, ◌+◌, ◌≤◌, ◌<◌, min}
use mathlib.Core.Path.{◌≡◌, refl, sym, ap, ◌∙◌}
use mathlib.Core.Bool.{Bool, false, cond, and-true}
use mathlib.Core.List.{List, [], ◌∷◌}
use lib.Dec.{eqb}
use lib.IntN.{ℤ}
use lib.ListN.{length, take, drop, set, length-take}
use lib.Seq.{take_all, take_at, drop-nil, set_out}
use native.Mathlib.Numerals.{add-one}
use native.Mathlib.Omega.{arith}
use borrow.Author.Tests.{eq-eqb, ne_eqb}
use Rattle.kernel_values.specs.declared.Judged.{Judged}
use Rattle.kernel_rules.specs.declared.Number.{Number}
use Rattle.kernel_rules.specs.Numbers.{number_in, is_number}
use Rattle.kernel_rules.specs.Tables.{is_unsigned, unsigned, is_signed}
use Rattle.kernel_values.specs.Reads.{is_formed, signed_or0, exact_in, judged_in}
use Rattle.kernel_values.proofs.Numbers.{formed_is}
use Rattle.kernel_values.specs.Storing.{stored, stored_from}

module _ {A : Type 0} where
  -- nothing is stored in an empty list
  stored_nothing : (r : ℕ) (xs : List A) → stored_from [] r xs ≡ []
  unfolding stored_from
  stored_nothing r [] = refl
  stored_nothing r (x ∷ xs) = stored_nothing (r + 1) xs

  -- what stands before the row stays
  stored_behind : (y : A) (out : List A) (r : ℕ) (xs : List A) → stored_from (y ∷ out) (suc r) xs ≡ y ∷ stored_from out r xs
  unfolding stored_from
  stored_behind y out r [] = refl
  stored_behind y out r (x ∷ xs) = rw (add-one r) (ap (λ (k : ℕ). stored_from (y ∷ set out r x) k xs) (add-one (suc r)) ∙ stored_behind y (set out r x) (suc r) xs)

  pub stored_all : (out xs : List A) → stored_from out 0 xs ≡ stored xs out
  unfolding stored_from stored
  stored_all [] xs = stored_nothing 0 xs ∙ sym (drop-nil (length xs))
  stored_all (y ∷ out) [] = refl
  stored_all (y ∷ out) (x ∷ xs) = stored_behind x out 0 xs ∙ ap (λ (l : List A). x ∷ l) (stored_all out xs)

  pub stored_front : (out xs : List A) (n : ℕ) → n ≡ min (length xs) (length out) → take n (stored xs out) ≡ take (length out) xs
  unfolding stored
  stored_front out xs n e = take_at (take (length out) xs) (drop (length xs) out) n (rw (length-take, e) (omega arith))

  -- where there is room for all
  pub stored_whole : (out xs : List A) → length xs ≤ length out → take (length xs) (stored xs out) ≡ xs
  stored_whole out xs h = stored_front out xs (length xs) (omega arith) ∙ take_all (length out) xs h

  pub set_with : (l out : List A) (i : ℕ) (x y : A) → out ≡ set l i x → x ≡ y → out ≡ set l i y
  set_with l out i x y e q = e ∙ rw q

abbrev pub judged : Bool → Bool → Judged
judged n e = record { number = n; exact = e }

pub judged_is : (a b x y : Bool) → a ≡ x → b ≡ y → judged a b ≡ judged x y
judged_is a b x y e q = rw (e, q)

-- a list by the column c: the value is stored in it, or it stays
pub number_in_lem :
    (c k : ℕ) (new out : List ℕ) (r : ℕ) (n m : Number) → c ≡ k → new ≡ set out r (unsigned n) → n ≡ m → new ≡ cond (eqb c k) (set out r (unsigned m)) out
number_in_lem c k new out r n m e q en = rw (eq-eqb c k e, ← en) q

pub time_in :
    (c k : ℕ) (new out : List ℤ) (r : ℕ) (n m : Number) → c ≡ k → new ≡ set out r (signed_or0 n) → n ≡ m → new ≡ cond (eqb c k) (set out r (signed_or0 m)) out
time_in c k new out r n m e q en = rw (eq-eqb c k e, ← en) q

module _ {A : Type 0} (c k : ℕ) (out y : List A) where
  pub off_column : (c ≡ k → ⊥) → out ≡ cond (eqb c k) y out
  off_column e = rw (ne_eqb c k e)

  pub in-other : (j : ℕ) → c ≡ j → eqb j k ≡ false → out ≡ cond (eqb c k) y out
  in-other j e f = rw (e, f)

pub last_column : (c : ℕ) → c < 3 → (c ≡ 0 → ⊥) → (c ≡ 1 → ⊥) → c ≡ 2
last_column c h p q = omega arith

-- what is judged of a value, by its column
module _ (c : ℕ) (s : List ℕ) (n : Number) (j : Judged) where
  pub judged_count : c ≡ 0 → n ≡ number_in 0 s → j ≡ judged (is_formed n) (is_unsigned n) → j ≡ judged_in c s
  unfolding judged_in exact_in
  judged_count e en ej = ej ∙ rw (en, e, formed_is 0 s) (ap (judged (is_number s)) (sym (and-true (is_unsigned (number_in 0 s)))))

  pub judged_time : c ≡ 1 → n ≡ number_in 9 s → j ≡ judged (is_formed n) (is_signed n) → j ≡ judged_in c s
  unfolding judged_in exact_in
  judged_time e en ej = ej ∙ rw (en, e, formed_is 9 s) (ap (judged (is_number s)) (sym (and-true (is_signed (number_in 9 s)))))

  pub judged_rate : c ≡ 2 → n ≡ number_in 12 s → j ≡ judged (is_formed n) (is_unsigned n) → j ≡ judged_in c s
  unfolding judged_in exact_in
  judged_rate e en ej = ej ∙ rw (en, e, formed_is 12 s)
