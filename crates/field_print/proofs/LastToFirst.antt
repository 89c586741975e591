-- The loop that writes the fields of a count, from the last to the first.
use Prim.Native.Nat.{ℕ, zero, suc, ◌+◌, ◌-◌, ◌*◌, ◌/◌, ◌%◌, ◌^◌, ◌≤◌, ◌<◌}
use mathlib.Core.Path.{◌≡◌, sym, ◌∙◌}
use mathlib.Core.List.{List, ◌∷◌, ◌++◌}
use lib.ListN.{length, get_or, take}
use lib.Seq.{take-suc, take_all, length-take-le}
use native.Mathlib.Nat.{mod-lt, le_refl, div-lt_iff_lt-mul}
use native.Mathlib.Omega.{arith}
use Rattle.base.specs.Scans.{product}
use Rattle.base.proofs.Lists.{product_pos}
use Rattle.rules.specs.Limits.{largest_offset}
use Rattle.rules.specs.Print.{last_digits, field_width, field_print, fields_print}
use Rattle.roundtrip.specs.Fields.{AllFields}
use Rattle.roundtrip.proofs.Digits.{last_length}
use Rattle.roundtrip.proofs.Fields.{print_last}
use Rattle.roundtrip.proofs.Length.{field_digits}
use Rattle.decimal.specs.Writing.{Room, Written}
use Rattle.decimal.proofs.RightToLeft.{Left, left_all, left_room, left_next, left_done}
use Rattle.field_print.proofs.Split.{product_one, product_snoc, front_positive, fields_snoc}
use Rattle.field_print.proofs.OneField.{FieldFacts, field_facts}

-- the first `left` fields, which are those of `rest`
abbrev pub front_of : List ℕ → List ℕ → ℕ → ℕ → ℕ → List ℕ
front_of ms os d rest left = fields_print d rest (take left ms) (take left os)

-- the last of them, and the first
abbrev last_of : List ℕ → List ℕ → ℕ → ℕ → List ℕ
last_of ms os rest left = field_print (rest % get_or ms (left - 1) 0) (get_or ms (left - 1) 0) (get_or os (left - 1) 0)

abbrev first_of : List ℕ → List ℕ → ℕ → List ℕ
first_of ms os rest = field_print rest (get_or ms 0 0) (get_or os 0 0)

-- a loop is at the first `left` fields, and `rest` is a count of theirs
pub record At (ms : List ℕ) (rest left : ℕ) : Type 0 where
  pub some : 1 ≤ left
  pub within : left ≤ length ms
  pub below : rest < product (take left ms)

module _ (ms os : List ℕ) (f : AllFields ms os) where
  -- of the first `left` fields, the last and those in front of it
  fields_last : (d rest left : ℕ) → 1 < left → left ≤ length ms
      → front_of ms os d rest left
      ≡ front_of ms os d (rest / get_or ms (left - 1) 0) (left - 1)
      ++ (d ∷ last_of ms os rest left)
  fields_last d rest zero h l = absurd (omega arith)
  fields_last d rest (suc i) h l =
      let before : suc i - 1 ≡ i = omega arith in
      let long : length (take i ms) ≡ i = length-take-le i ms (omega arith) in
      let long' : length (take i os) ≡ i = length-take-le i os (omega arith) in
      rw (before, take-suc ms i 0 l, take-suc os i 0 (omega arith))
      (fields_snoc d rest (take i ms) (take i os) (get_or ms i 0) (get_or os i 0) (long' ∙ sym long) (omega arith) (front_positive ms i (product_pos ms f.facts.moduli)) (field_facts ms os f.facts i l).modulus)

  fields_first : (d rest left : ℕ) → 1 ≤ left → left ≤ 1 → front_of ms os d rest left ≡ first_of ms os rest
  fields_first d rest left h l =
      let n : left ≡ 1 = omega arith in
      rw (n, take-suc ms 0 0 f.some, take-suc os 0 0 (omega arith), print_last)

  fields_all : (d c : ℕ) → fields_print d c ms os ≡ front_of ms os d c (length ms)
  fields_all d c = rw (take_all (length ms) ms (le_refl _), take_all (length ms) os (omega arith))

  pub at_last : (c : ℕ) → c < product ms → At ms c (length ms)
  at_last c h = record { some = f.some; within = le_refl _; below = rw (take_all (length ms) ms (le_refl _)) h }

  module _ (rest left : ℕ) (at : At ms rest left) where
    later_facts : 1 < left → FieldFacts (get_or ms (left - 1) 0) (get_or os (left - 1) 0)
    later_facts h = field_facts ms os f.facts (left - 1) (omega arith)

    pub later_modulus : 1 < left → 1 ≤ get_or ms (left - 1) 0
    later_modulus h = (later_facts h).modulus

    later_below : 1 < left → rest % get_or ms (left - 1) 0 < get_or ms (left - 1) 0
    later_below h = mod-lt rest (later_modulus h)

    first_below : left ≤ 1 → rest < get_or ms 0 0
    first_below h =
        let n : left ≡ 1 = omega (arith, at.some) in
        rw (n, take-suc ms 0 0 f.some, product_one) at at.below

    -- shown numbers fit a word
    pub later_offset : 1 < left → get_or os (left - 1) 0 ≤ largest_offset
    later_offset h = (later_facts h).offset

    pub later_fits : 1 < left → (x : ℕ) → x ≤ largest_offset → rest % get_or ms (left - 1) 0 + x < 2 ^ 64
    later_fits h x k = let g = later_facts h in omega (arith, later_below h)

    pub first_fits : left ≤ 1 → rest + get_or os 0 0 < 2 ^ 64
    first_fits h = let g = field_facts ms os f.facts 0 f.some in omega (arith, first_below h)

    pub at_next : 1 < left → At ms (rest / get_or ms (left - 1) 0) (left - 1)
    at_next h =
        let n : left ≡ suc (left - 1) = omega arith in
        let below : rest < product (take (left - 1) ms) * get_or ms (left - 1) 0 = rw (← product_snoc (take (left - 1) ms) (get_or ms (left - 1) 0), ← take-suc ms (left - 1) 0 (omega (arith, at.within)), ← n) at.below in
        record { some = omega arith; within = omega (arith, at.within); below = (div-lt_iff_lt-mul {k = get_or ms (left - 1) 0} (later_modulus h)).1 below }

    module _ (s : List ℕ) (d end place width : ℕ) (entry buffer : List ℕ) (l : Left s (front_of ms os d rest left) end place entry buffer) where
      module _ (h : 1 < left) (e : width ≡ field_width (get_or ms (left - 1) 0) (get_or os (left - 1) 0)) where
        later_left : Left s (front_of ms os d (rest / get_or ms (left - 1) 0) (left - 1) ++ (d ∷ last_digits width (rest % get_or ms (left - 1) 0 + get_or os (left - 1) 0))) end place entry buffer
        later_left =
            rw (e, ← field_digits (rest % get_or ms (left - 1) 0) (get_or ms (left - 1) 0) (get_or os (left - 1) 0) (later_below h)) (rw (fields_last d rest left h at.within) at l)

        -- there is room for so many digits, whatever they show
        pub later_room : (x : ℕ) → Room (d ∷ last_digits width x) place buffer
        later_room x =
            let r = left_room s (front_of ms os d (rest / get_or ms (left - 1) 0) (left - 1)) _ end place entry buffer later_left in
            record { before = omega (arith, r.before, last_length width x, last_length width (rest % get_or ms (left - 1) 0 + get_or os (left - 1) 0)); within = r.within }

        pub later_next : (start : ℕ) (after : List ℕ)
            → Written (d ∷ last_digits width (rest % get_or ms (left - 1) 0 + get_or os (left - 1) 0)) place start buffer after
            → Left s (front_of ms os d (rest / get_or ms (left - 1) 0) (left - 1)) end start entry after
        later_next start after w = left_next s (front_of ms os d (rest / get_or ms (left - 1) 0) (left - 1)) _ end place start entry buffer after later_left w

      module _ (h : left ≤ 1) (e : width ≡ field_width (get_or ms 0 0) (get_or os 0 0)) where
        first_left : Left s (last_digits width (rest + get_or os 0 0)) end place entry buffer
        first_left = rw (e, ← field_digits rest (get_or ms 0 0) (get_or os 0 0) (first_below h)) (rw (fields_first d rest left at.some h) at l)

        pub first_room : (x : ℕ) → Room (last_digits width x) place buffer
        first_room x =
            let r = first_left.room in
            record { before = omega (arith, r.before, last_length width x, last_length width (rest + get_or os 0 0)); within = r.within }

        pub first_done : (start : ℕ) (after : List ℕ) → Written (last_digits width (rest + get_or os 0 0)) place start buffer after → Written s end start entry after
        first_done start after w = left_done s _ end place start entry buffer after first_left w

  pub fields_start : (d c end : ℕ) (buffer : List ℕ) → Room (fields_print d c ms os) end buffer
      → Left (fields_print d c ms os) (front_of ms os d c (length ms)) end end buffer buffer
  fields_start d c end buffer r = rw (← fields_all d c) (left_all _ end buffer r)
