-- The slots of a layout that bytes make: no more of them are filled than a list has numbers.
use Prim.Native.Nat.{ℕ, zero, suc, ◌≤◌, ◌<◌}
use mathlib.Core.Path.{◌≡◌, refl, ap}
use mathlib.Core.Bool.{◌&&◌}
use mathlib.Core.List.{List, [], ◌∷◌}
use lib.Dec.{leb}
use lib.ListN.{length, take}
use native.Mathlib.Omega.{arith}
use borrow.Author.Tests.{leb-true, lt-leb}
use Rattle.base.proofs.Tests.{by_test, and_first, and_second, and_out_second}
use Rattle.rules.specs.Limits.{most_fields, last_delimiter}
use Rattle.rules.specs.Layout.{moduli_of, offsets_of}
use Rattle.c_rules.specs.Numbers.{numbers_in, numbers}
use Rattle.c_rules.specs.Tables.{slots, fields_given, code_given, layout_from}
use Rattle.c_rules.proofs.Bytes.{length_numbers}

-- the first n slots of a list cut to n
pub cut : (n k : ℕ) (xs : List ℕ) → n ≤ k → n ≤ length xs → take n (slots k (take n xs)) ≡ take n xs
unfolding slots
cut zero k xs h l = refl
cut (suc n) zero xs h l = absurd (omega arith)
cut (suc n) (suc k) [] h l = absurd (omega arith)
cut (suc n) (suc k) (x ∷ xs) h l = ap (λ (s : List ℕ). x ∷ s) (cut n k xs (omega arith) (omega arith))

module _ (n : ℕ) (moduli offsets : List ℕ) where
  pub moduli_enough : fields_given n moduli offsets ≤ numbers_in moduli
  unfolding fields_given
  moduli_enough =
      by_test (leb n (numbers_in moduli) && leb n (numbers_in offsets)) (λ t. rw t (leb-true n (numbers_in moduli) (and_first _ _ t))) (λ f. rw f (omega arith))

  pub offsets_enough : fields_given n moduli offsets ≤ numbers_in offsets
  unfolding fields_given
  offsets_enough =
      by_test (leb n (numbers_in moduli) && leb n (numbers_in offsets))
      (λ t. rw t (leb-true n (numbers_in offsets) (and_second (leb n (numbers_in moduli)) _ t)))
      (λ f. rw f (omega arith))

  pub under_moduli : numbers_in moduli < n → fields_given n moduli offsets ≡ 0
  unfolding fields_given
  under_moduli h = rw (lt-leb n (numbers_in moduli) h)

  pub under_offsets : numbers_in offsets < n → fields_given n moduli offsets ≡ 0
  unfolding fields_given
  under_offsets h = rw (and_out_second (leb n (numbers_in moduli)) (lt-leb n (numbers_in offsets) h))

  -- the fields of a layout with few of them
  module _ (d : ℕ) (few : fields_given n moduli offsets ≤ most_fields) where
    pub moduli_are : moduli_of (layout_from n d moduli offsets) ≡ take (fields_given n moduli offsets) (numbers moduli)
    moduli_are = cut (fields_given n moduli offsets) most_fields (numbers moduli) few (omega (arith, moduli_enough, length_numbers moduli))

    pub offsets_are : offsets_of (layout_from n d moduli offsets) ≡ take (fields_given n moduli offsets) (numbers offsets)
    offsets_are = cut (fields_given n moduli offsets) most_fields (numbers offsets) few (omega (arith, offsets_enough, length_numbers offsets))

pub no_code : (d : ℕ) → last_delimiter < d → code_given d ≡ 0
unfolding code_given
no_code d h = rw (lt-leb d last_delimiter h)
