-- The fields of a clock text, byte by byte.
use Prim.Native.Nat.{ℕ, zero, suc, ◌+◌, ◌-◌, ◌≤◌, ◌<◌}
use mathlib.Core.Path.{◌≡◌, refl, sym, ap, ◌∙◌}
use mathlib.Core.Bool.{true, false}
use mathlib.Core.List.{List, [], ◌∷◌, map}
use lib.ListN.{length, get_or, drop, drop_of_length-le, get_or-eq_default}
use lib.Seq.{ext_get_or}
use borrow.Author.Tests.{lt-leb, le-leb, eq-eqb, ne_eqb}
use native.Mathlib.Nat.{le_refl}
use native.Mathlib.Omega.{arith}
use Rattle.base.specs.Scans.{sum_below}
use Rattle.base.proofs.Lists.{drop_next}
use Rattle.base.proofs.Tests.{by_test, and_both, and_out_first, and_out_second}
use Rattle.base.proofs.Scans.{sum_next, sum_up}
use Rattle.rules.specs.Text.{
  Before,
  edge,
  number,
  gap,
  is_digit,
  is_blank,
  is_mark,
  is_allowed,
  after,
  after_blank,
  Digit,
  digit_at,
  symbols_from,
  symbols_at,
  digit_after,
  between,
  with_digit,
  Field,
  fields_from,
}
use Rattle.rules.specs.Edges.{tabulate}
use Rattle.rules.proofs.Rows.{tabulate_length, tabulate_at}
use Rattle.places.proofs.ByteKinds.{blank_no_digit, blank_no_mark, blank_left}
use Rattle.places.proofs.Gaps.{Stands, after-digit, after-mark, after-blank, ends_digit, ends_mark, ends_blank}
use Rattle.places.specs.Fields.{ends_field, fields_ended, fields_in, in_field, those, field_in, FieldsByBytes}

-- one more digit in the first field
with_first : (d : Digit) (fs : List Field) → get_or (with_digit d fs) 0 [] ≡ d ∷ get_or fs 0 []
unfolding with_digit
with_first d [] = refl
with_first d (f ∷ fs) = refl

with_later : (d : Digit) (fs : List Field) (k : ℕ) → get_or (with_digit d fs) (suc k) [] ≡ get_or fs (suc k) []
unfolding with_digit
with_later d [] k = get_or-eq_default [] [] {n = k} (omega arith)
with_later d (f ∷ fs) k = refl

with_length : (d : Digit) (fs : List Field) → 1 ≤ length fs → length (with_digit d fs) ≡ length fs
unfolding with_digit
with_length d [] h = absurd (omega arith)
with_length d (f ∷ fs) h = refl

module _ (s : List ℕ) (start : ℕ) where
  abbrev byte : ℕ → ℕ
  byte i = get_or s i 0

  abbrev ended : ℕ → ℕ
  ended j = fields_ended s start j

  ended_same : (j : ℕ) → start ≤ j → ends_field s start j ≡ false → ended (j + 1) ≡ ended j
  unfolding fields_ended
  ended_same j a e = sum_next _ j ∙ rw (le-leb start j a, e) (omega arith)

  ended_one : (j : ℕ) → start ≤ j → ends_field s start j ≡ true → ended (j + 1) ≡ ended j + 1
  unfolding fields_ended
  ended_one j a e = sum_next _ j ∙ rw (le-leb start j a, e)

  pub ended_up : (i j : ℕ) → i ≤ j → fields_ended s start i ≤ fields_ended s start j
  unfolding fields_ended
  ended_up i j h = sum_up _ i j h

  -- the digits of field k among the n bytes from j on
  abbrev digits_from : ℕ → ℕ → ℕ → Field
  digits_from k j n = map (λ i. digit_at i (byte i)) (those (in_field s start k) j n)

  no_digit_here : (n k j : ℕ) → in_field s start k j ≡ false → digits_from k j (suc n) ≡ digits_from k (j + 1) n
  unfolding those
  no_digit_here n k j f = rw f

  digit_here : (n k j : ℕ) → in_field s start k j ≡ true → digits_from k j (suc n) ≡ digit_at j (byte j) ∷ digits_from k (j + 1) n
  unfolding those
  digit_here n k j t = rw t

  -- byte j is no digit, or one of another field
  not_digit : (k j : ℕ) → is_digit (byte j) ≡ false → in_field s start k j ≡ false
  unfolding in_field
  not_digit k j f = and_out_first _ f

  not_field : (k j : ℕ) → (ended (j + 1) ≡ k → ⊥) → in_field s start k j ≡ false
  unfolding in_field
  not_field k j f = and_out_second (is_digit (byte j)) (ne_eqb (ended (j + 1)) k f)

  of_field : (k j : ℕ) → is_digit (byte j) ≡ true → ended (j + 1) ≡ k → in_field s start k j ≡ true
  unfolding in_field
  of_field k j d e = and_both d (eq-eqb (ended (j + 1)) k e)

  -- none of a field that has ended
  none_later : (n k j : ℕ) → k < ended j → digits_from k j n ≡ []
  unfolding those
  none_later zero k j h = refl
  none_later (suc n) k j h =
      let up = ended_up j (j + 1) (omega arith) in
      no_digit_here n k j (not_field k j (λ e. omega (arith, up))) ∙ none_later n k (j + 1) (omega arith)

  -- fs are the fields from byte j on, of the n bytes that are left: the first of them is the one at j
  record FieldsFrom (n j : ℕ) (fs : List Field) : Type 0 where
    each : (k : ℕ) → get_or fs k [] ≡ digits_from (ended j + k) j n
    count : length fs + ended j ≡ ended (length s) + 1

  -- byte j is no digit, and ends no field
  blank_step : (n j : ℕ) (fs : List Field) → is_digit (byte j) ≡ false → ended (j + 1) ≡ ended j → FieldsFrom n (j + 1) fs → FieldsFrom (suc n) j fs
  blank_step n j fs f q w =
      record {
        each = λ k. (rw q at (w.each k)) ∙ sym (no_digit_here n (ended j + k) j (not_digit (ended j + k) j f));
        count = rw q at w.count;
      }

  -- A field ends before byte j: fs is the rest of the fields, up to that byte.
  end_step : (n j : ℕ) (fs : List Field) → ended (j + 1) ≡ ended j + 1 → ((k : ℕ) → get_or fs k [] ≡ digits_from (ended (j + 1) + k) j (suc n))
      → length fs + ended (j + 1) ≡ ended (length s) + 1 → FieldsFrom (suc n) j ([] ∷ fs)
  end_step n j fs q h c = record { each = each; count = omega arith }
    where
      each : (k : ℕ) → get_or ([] ∷ fs) k [] ≡ digits_from (ended j + k) j (suc n)
      each zero =
          sym (no_digit_here n (ended j + 0) j (not_field (ended j + 0) j (λ e. omega arith)) ∙ none_later n (ended j + 0) (j + 1) (omega arith))
      each (suc k) = let same : ended (j + 1) + k ≡ ended j + suc k = omega arith in rw same at (h k)

  mark_step : (n j : ℕ) (fs : List Field) → is_digit (byte j) ≡ false → ended (j + 1) ≡ ended j + 1 → FieldsFrom n (j + 1) fs → FieldsFrom (suc n) j ([] ∷ fs)
  mark_step n j fs f q w =
      end_step n j fs q (λ k. w.each k ∙ sym (no_digit_here n (ended (j + 1) + k) j (not_digit (ended (j + 1) + k) j f))) w.count

  -- byte j is a digit: of the field at it
  with_each : (n j : ℕ) (fs : List Field) → is_digit (byte j) ≡ true → FieldsFrom n (j + 1) fs
      → (k : ℕ) → get_or (with_digit (digit_at j (byte j)) fs) k [] ≡ digits_from (ended (j + 1) + k) j (suc n)
  with_each n j fs d w zero =
      with_first _ fs ∙ ap (λ f. digit_at j (byte j) ∷ f) (w.each 0)
      ∙ sym (digit_here n (ended (j + 1) + 0) j (of_field (ended (j + 1) + 0) j d (omega arith)))
  with_each n j fs d w (suc k) =
      with_later _ fs k ∙ w.each (suc k) ∙ sym (no_digit_here n (ended (j + 1) + suc k) j (not_field (ended (j + 1) + suc k) j (λ x. omega arith)))

  with_count : (n j : ℕ) (fs : List Field) → j < length s → FieldsFrom n (j + 1) fs → length (with_digit (digit_at j (byte j)) fs) + ended (j + 1) ≡ ended (length s) + 1
  with_count n j fs b w = rw (with_length (digit_at j (byte j)) fs (omega (arith, w.count, ended_up (j + 1) (length s) (omega arith)))) w.count

  digit_step : (n j : ℕ) (fs : List Field) → j < length s → is_digit (byte j) ≡ true → ended (j + 1) ≡ ended j → FieldsFrom n (j + 1) fs
      → FieldsFrom (suc n) j (with_digit (digit_at j (byte j)) fs)
  digit_step n j fs b d q w = record { each = λ k. rw q at (with_each n j fs d w k); count = rw q at (with_count n j fs b w) }

  gap_step : (n j : ℕ) (fs : List Field) → j < length s → is_digit (byte j) ≡ true → ended (j + 1) ≡ ended j + 1 → FieldsFrom n (j + 1) fs
      → FieldsFrom (suc n) j ([] ∷ with_digit (digit_at j (byte j)) fs)
  gap_step n j fs b d q w = end_step n j (with_digit (digit_at j (byte j)) fs) q (with_each n j fs d w) (with_count n j fs b w)

  -- the fields of what is left of the text at j, by what stands before it
  abbrev fields_after : Before → ℕ → List Field
  fields_after w j = between (symbols_from w j (drop j s))

  module _ (allowed : (i : ℕ) → start ≤ i → i < length s → is_allowed (byte i) ≡ true) where
    from_digit : (n : ℕ) (w : Before) (j : ℕ) → start ≤ j → j < length s → Stands s start j w → is_digit (byte j) ≡ true
        → FieldsFrom n (j + 1) (fields_after number (j + 1)) → FieldsFrom (suc n) j (fields_after w j)
    unfolding symbols_from symbols_at digit_after after between
    from_digit n edge j a b h d r = rw (drop_next s j 0 b, d) (digit_step n j _ b d (ended_same j a (ends_digit s start j edge h d)) r)
    from_digit n number j a b h d r = rw (drop_next s j 0 b, d) (digit_step n j _ b d (ended_same j a (ends_digit s start j number h d)) r)
    from_digit n gap j a b h d r = rw (drop_next s j 0 b, d) (gap_step n j _ b d (ended_one j a (ends_digit s start j gap h d)) r)

    from_mark : (n : ℕ) (w : Before) (j : ℕ) → start ≤ j → j < length s → is_digit (byte j) ≡ false → is_mark (byte j) ≡ true
        → FieldsFrom n (j + 1) (fields_after edge (j + 1)) → FieldsFrom (suc n) j (fields_after w j)
    unfolding symbols_from symbols_at after between
    from_mark n w j a b f m r = rw (drop_next s j 0 b, f, m) (mark_step n j _ f (ended_one j a (ends_mark s start j m)) r)

    from_blank : (n : ℕ) (w : Before) (j : ℕ) → start ≤ j → j < length s → is_blank (byte j) ≡ true
        → FieldsFrom n (j + 1) (fields_after (after_blank w) (j + 1)) → FieldsFrom (suc n) j (fields_after w j)
    unfolding symbols_from symbols_at after between
    from_blank n w j a b k r =
        let f = blank_no_digit (byte j) k in
        rw (drop_next s j 0 b, f, blank_no_mark (byte j) k) (blank_step n j _ f (ended_same j a (ends_blank s start j k)) r)

    fields_from_lem : (n : ℕ) (w : Before) (j : ℕ) → start ≤ j → j + n ≡ length s → Stands s start j w → FieldsFrom n j (fields_after w j)
    unfolding symbols_from between those
    fields_from_lem zero w j a e h = let same : j ≡ length s = omega arith in rw (drop_of_length-le s {i = j} (omega arith)) (record { each = none; count = rw same (omega arith) })
      where
        none : (k : ℕ) → get_or {A = Field} ([] ∷ []) k [] ≡ []
        none zero = refl
        none (suc k) = get_or-eq_default [] [] {n = k} (omega arith)
    fields_from_lem (suc n) w j a e h =
        by_test (is_digit (byte j))
        (λ d. from_digit n w j a (omega arith) h d (fields_from_lem n number (j + 1) (omega arith) (omega arith) (after-digit s start j a d)))
        (λ f. by_test (is_mark (byte j))
        (λ m. from_mark n w j a (omega arith) f m (fields_from_lem n edge (j + 1) (omega arith) (omega arith) (after-mark s start j m)))
        (λ g. let k = blank_left (byte j) (allowed j a (omega arith)) f g in
        from_blank n w j a (omega arith) k (fields_from_lem n (after_blank w) (j + 1) (omega arith) (omega arith) (after-blank s start j w k h))))

-- no field ends before the clock text begins
ended_none : (s : List ℕ) (start j : ℕ) → j ≤ start → fields_ended s start j ≡ 0
unfolding fields_ended sum_below
ended_none s start zero h = refl
ended_none s start (suc j) h = rw (ended_none s start j (omega arith), lt-leb start j (omega arith))

pub fields_by_bytes : FieldsByBytes
unfolding fields_from field_in
fields_by_bytes s start a allowed = ext_get_or [] _ (tabulate (field_in s start) (fields_in s start)) (lengths ∙ sym (tabulate_length (field_in s start) (fields_in s start))) each
  where
    from_start : FieldsFrom s start (length s - start) start (fields_from start (drop start s))
    from_start = fields_from_lem s start allowed (length s - start) edge start (le_refl start) (omega arith) (λ i x y. absurd (omega arith))

    zero_ended : fields_ended s start start ≡ 0
    zero_ended = ended_none s start start (le_refl start)

    lengths : length (fields_from start (drop start s)) ≡ fields_in s start
    lengths = omega (arith, from_start.count, zero_ended)

    each : (k : ℕ) → k < length (fields_from start (drop start s)) → get_or (fields_from start (drop start s)) k [] ≡ get_or (tabulate (field_in s start) (fields_in s start)) k []
    each k h =
        let same : fields_ended s start start + k ≡ k = omega (arith, zero_ended) in
        (rw same at (from_start.each k)) ∙ sym (tabulate_at (field_in s start) [] (fields_in s start) k (omega (arith, h, lengths)))
