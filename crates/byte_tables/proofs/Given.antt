-- The layout that numbers and two lists in bytes make, and a row of segments that lie in bytes.
use Prim.Native.Nat.{ℕ, zero, suc, ◌+◌, ◌≤◌, ◌<◌, min}
use mathlib.Core.Path.{◌≡◌, refl, sym}
use mathlib.Core.List.{List, [], ◌∷◌}
use mathlib.Core.Bool.{Bool, true, false, not}
use lib.Dec.{leb}
use lib.IntN.{ℤ, pos}
use lib.ListN.{length, get_or, take, drop}
use lib.Seq.{drop-drop}
use mir.Syntax.{w64}
use mir.Val.{SFits, to_z, of_z}
use mir.Facts.{to_z-of_z}
use native.Mathlib.Omega.{arith}
use Rattle.base.specs.Scans.{all, product}
use Rattle.rules.specs.Limits.{most_fields, largest_offset, largest_msf}
use Rattle.rules.specs.Answer.{Answer, refuse}
use Rattle.layouts.specs.declared.Measured.{Measured}
use Rattle.layouts.specs.Measure.{measure_of, head_ok, measured_by}
use Rattle.layouts.proofs.Slots.{product_of_slots}
use Rattle.layouts.proofs.Measuring.{some_fields, few_fields, bad_head, large_offset, moduli_measured}
use Rattle.rules.specs.Segments.{row_of}
use Rattle.segments.specs.Rows.{RowIn}
use Rattle.c_rules.specs.Numbers.{numbers, times}
use Rattle.c_rules.specs.Tables.{slots, fields_given, code_given, layout_from, segments_from}
use Rattle.c_rules.proofs.Bytes.{length_numbers}
use Rattle.c_rules.proofs.Slots.{moduli_enough, offsets_enough, moduli_are, offsets_are}

-- no more fields than a list has numbers
module _ (n : ℕ) (moduli offsets : List ℕ) (k : ℕ) (ke : k ≡ fields_given n moduli offsets) where
  pub moduli_there : k ≤ length (numbers moduli)
  moduli_there = omega (arith, moduli_enough n moduli offsets, length_numbers moduli)

  pub offsets_there : k ≤ length (numbers offsets)
  offsets_there = omega (arith, offsets_enough n moduli offsets, length_numbers offsets)

  -- the ways out of `measure_of`
  module _ (d code : ℕ) (ce : code ≡ code_given d) {b : Bool} (head : b ≡ head_ok k code) where
    head_is : b ≡ head_ok (fields_given n moduli offsets) (code_given d)
    head_is = rw (← ke, ← ce) head

    pub head_out : not b ≡ true → refuse 1 ≡ measure_of (layout_from n d moduli offsets)
    head_out h = bad_head (layout_from n d moduli offsets) head_is h

    module _ (h : not b ≡ false) where
      few : fields_given n moduli offsets ≤ most_fields
      few = few_fields (fields_given n moduli offsets) (code_given d) head_is h

      pub first_there : 0 < length (numbers moduli)
      first_there = omega (arith, moduli_there, some_fields k code head h)

      module _ {c : Bool} (offsets-test : c ≡ all (λ o. leb o largest_offset) (take k (numbers offsets))) where
        offsets_is : c ≡ all (λ o. leb o largest_offset) (take (fields_given n moduli offsets) (numbers offsets))
        offsets_is = rw (← ke) offsets-test

        pub offsets_out : not c ≡ true → refuse 1 ≡ measure_of (layout_from n d moduli offsets)
        offsets_out g = large_offset (layout_from n d moduli offsets) (take (fields_given n moduli offsets) (numbers offsets)) (offsets_are n moduli offsets d few) offsets_is g

        pub measured_is : not c ≡ false → (first m : ℕ) → first ≡ get_or (numbers moduli) 0 0 → m ≡ min (product (drop 1 (take k (numbers moduli)))) (largest_msf + 1) → (a : Answer Measured) → a ≡ measured_by first m → a ≡ measure_of (layout_from n d moduli offsets)
        measured_is g first m fe me a q =
            moduli_measured (layout_from n d moduli offsets) (take (fields_given n moduli offsets) (numbers moduli)) (take (fields_given n moduli offsets) (numbers offsets))
            (moduli_are n moduli offsets d few) (offsets_are n moduli offsets d few) head_is h offsets_is g first m
            (rw (fe, ← ke) (product_of_slots (numbers moduli) k (some_fields k code head h) moduli_there))
            (rw (← ke) me) a q

-- k slots from slot i on
unfoldable slots_from : ℕ → ℕ → List ℕ → List ℕ
slots_from zero i xs = []
slots_from (suc k) i xs = get_or xs i 0 ∷ slots_from k (1 + i) xs

first_slot : (k : ℕ) (xs : List ℕ) → slots (suc k) xs ≡ get_or xs 0 0 ∷ slots k (drop 1 xs)
unfolding slots
first_slot k [] = refl
first_slot k (x ∷ xs) = refl

at_drop : (i : ℕ) (xs : List ℕ) → get_or (drop i xs) 0 0 ≡ get_or xs i 0
at_drop zero xs = refl
at_drop (suc i) [] = refl
at_drop (suc i) (x ∷ xs) = at_drop i xs

slots_from_lem : (k i : ℕ) (xs : List ℕ) → slots k (drop i xs) ≡ slots_from k i xs
unfolding slots slots_from
slots_from_lem zero i xs = refl
slots_from_lem (suc k) i xs = rw (first_slot k (drop i xs), at_drop i xs, drop-drop 1 i xs, ← (slots_from_lem k (1 + i) xs)) (rw next)
  where
    next : i + 1 ≡ 1 + i
    next = omega arith

pub ten_slots : (xs : List ℕ) → (get_or xs 0 0 ∷ get_or xs 1 0 ∷ get_or xs 2 0 ∷ get_or xs 3 0 ∷ get_or xs 4 0 ∷ get_or xs 5 0 ∷ get_or xs 6 0 ∷ get_or xs 7 0 ∷ get_or xs 8 0 ∷ get_or xs 9 0 ∷ []) ≡ slots most_fields xs
unfolding slots_from
ten_slots xs = sym (slots_from_lem most_fields 0 xs)

-- row i is in every list
module _ (counts ts rates : List ℕ) (i : ℕ) (w : RowIn (segments_from counts ts rates) i) where
  pub count_there : i < length (numbers counts)
  count_there = w.count

  pub time_there : i < length (times ts)
  time_there = w.time

  pub rate_there : i < length (numbers rates)
  rate_there = w.rate

pub row_is : (counts ts rates : List ℕ) (i c : ℕ) (t : ℤ) (r : ℕ) → c ≡ get_or (numbers counts) i 0 → t ≡ get_or (times ts) i (pos 0) → SFits w64 t → r ≡ get_or (numbers rates) i 0
    → record { count = c; time = to_z w64 (of_z w64 t); rate = r } ≡ row_of (segments_from counts ts rates) i
row_is counts ts rates i c t r ec et f er = rw (to_z-of_z f, ec, et, er)
