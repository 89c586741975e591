-- One list at its place: judged, and kept as far as there is room.
use Prim.Native.Nat.{ℕ, suc, ◌+◌, ◌-◌, ◌/◌, ◌≤◌, ◌<◌, min}
use mathlib.Core.Path.{◌≡◌, refl, sym, ap, ◌∙◌}
use mathlib.Core.Bool.{Bool, true, false, not, ◌&&◌}
use mathlib.Core.List.{List, [], ◌∷◌, map, append-nil}
use lib.IntN.{ℤ}
use lib.Dec.{leb}
use lib.ListN.{length, get_or, take, drop, length-take, length-drop, length-append, drop_of_length-le}
use lib.Seq.{take_at, take_all}
use borrow.Author.Tests.{eq-eqb, ne_eqb, leb-true, leb-false}
use native.Mathlib.Nat.{add-zero}
use native.Mathlib.Omega.{arith}
use Rattle.base.specs.Scans.{all_of}
use Rattle.base.proofs.Tests.{by_test}
use Rattle.kernel_rules.specs.Assignments.{is_plus}
use Rattle.kernel_rules.specs.Numbers.{is_number}
use Rattle.kernel_rules.specs.Names.{Assignment}
use Rattle.kernel_rules.specs.Tables.{every, values_given, numbers, unsigned, whole, in_nanoseconds, in_picoseconds, column, counts_in, times_in, rates_in}
use Rattle.kernel_find.specs.Slots.{assignment_at, slot_at, Placed}
use Rattle.kernel_walk.specs.Places.{line_here, lines_behind, values_here}
use Rattle.kernel_values.specs.declared.Filled.{Filled}
use Rattle.kernel_values.specs.Storing.{stored}
use Rattle.kernel_values.specs.Reads.{list_read, rows_read, signed_or0, times_of, rates_of}
use Rattle.kernel_listing.specs.declared.Listed.{Listed}
use Rattle.kernel_listing.specs.declared.Rows.{Rows}
use Rattle.kernel_listing.specs.Lists.{list_ok, rows_exact, lists_good, lists_exact}
use Rattle.kernel_listing.specs.Listed.{listed_of, rows_of}

length_map : {A B : Type 0} (f : A → B) (xs : List A) → length (map f xs) ≡ length xs
length_map f [] = refl
length_map f (x ∷ xs) = ap suc (length_map f xs)

-- what is kept of a stored list
kept_front : {A : Type 0} (xs out : List A) (k : ℕ) → k ≡ length xs → take k (stored xs out) ≡ take (length out) xs
unfolding stored
kept_front xs out k e =
    by_test (leb (length xs) (length out))
    (λ h. take_at (take (length out) xs) (drop (length xs) out) k (length-take (length out) xs ∙ fits (leb-true _ _ h)))
    (λ h. rw (drop_of_length-le out (over (leb-false _ _ h)), append-nil (take (length out) xs)) (take_all k (take (length out) xs) (rw (length-take (length out) xs) (omega (arith, e)))))
  where
    fits : length xs ≤ length out → min (length out) (length xs) ≡ k
    fits h = omega (arith, e)

    over : length out < length xs → length out ≤ length xs
    over h = omega arith

pub stored_length : {A : Type 0} (xs out : List A) → length (stored xs out) ≡ length out
unfolding stored
stored_length xs out =
    length-append (take (length out) xs) (drop (length xs) out) ∙ rw (length-take (length out) xs, length-drop (length xs) out) (fits (length xs) (length out))
  where
    fits : (a b : ℕ) → min b a + (b - a) ≡ b
    fits a b = omega arith

pub kept_length : {A : Type 0} (xs out after : List A) → after ≡ stored xs out → length after ≡ length out
kept_length xs out after e = rw e (stored_length xs out)

-- the values of a list in rows of three, by their columns
record Columns (vs : List (List ℕ)) : Type 0 where
  first : length (column 3 0 vs) ≡ (length vs + 2) / 3
  second : length (column 3 1 vs) ≡ (length vs + 1) / 3
  third : length (column 3 2 vs) ≡ length vs / 3

columns : (vs : List (List ℕ)) → Columns vs
unfolding column
columns [] = record { first = refl; second = refl; third = refl }
columns (v ∷ vs) =
    let r = columns vs in
    record { first = omega (arith, r.third); second = omega (arith, r.first); third = omega (arith, r.second) }

-- the three lists of the coefficients vs
record Lengths (vs : List (List ℕ)) : Type 0 where
  counts : length (numbers (counts_in vs)) ≡ (length vs + 2) / 3
  times : length (times_of (times_in vs)) ≡ (length vs + 1) / 3
  rates : length (rates_of (rates_in vs)) ≡ length vs / 3

lengths : (vs : List (List ℕ)) → Lengths vs
lengths vs =
    let r = columns vs in
    record {
      counts = length_map (λ v. unsigned (whole v)) (counts_in vs) ∙ r.first;
      times = length_map (λ v. signed_or0 (in_nanoseconds v)) (times_in vs) ∙ r.second;
      rates = length_map (λ v. unsigned (in_picoseconds v)) (rates_in vs) ∙ r.third;
    }

-- where a list is absent
module _ (text : List ℕ) (at : ℕ) (absent : at ≡ 0) where
  none : slot_at text at ≡ []
  unfolding slot_at
  none = rw (eq-eqb at 0 absent)

  pub absent_list : record { good = false; exact = true; count = 0 } ≡ listed_of (slot_at text at)
  unfolding listed_of list_ok values_given every
  absent_list = rw none

  pub absent_rows : record { good = false; exact = true; counts = 0; times = 0; rates = 0 } ≡ rows_of (slot_at text at)
  unfolding rows_of list_ok values_given every rows_exact column
  absent_rows = rw none

  pub absent_numbers : (room : ℕ) (out : List ℕ) → take 0 out ≡ take room (numbers (values_given (slot_at text at)))
  unfolding values_given
  absent_numbers room out = rw none (sym (take_all room [] (omega arith)))

  pub absent_counts : (room : ℕ) (out : List ℕ) → take 0 out ≡ take room (numbers (counts_in (values_given (slot_at text at))))
  unfolding values_given column
  absent_counts room out = rw none (sym (take_all room [] (omega arith)))

  pub absent_times : (room : ℕ) (out : List ℤ) → take 0 out ≡ take room (times_of (times_in (values_given (slot_at text at))))
  unfolding values_given column
  absent_times room out = rw none (sym (take_all room [] (omega arith)))

  pub absent_rates : (room : ℕ) (out : List ℕ) → take 0 out ≡ take room (rates_of (rates_in (values_given (slot_at text at))))
  unfolding values_given column
  absent_rates room out = rw none (sym (take_all room [] (omega arith)))

-- where it is given
module _ (text : List ℕ) (at : ℕ) (there : at ≡ 0 → ⊥) where
  here : slot_at text at ≡ assignment_at text at ∷ []
  unfolding slot_at
  here = rw (ne_eqb at 0 there)

  same_values : values_given (slot_at text at) ≡ values_here text at
  unfolding values_given assignment_at
  same_values = rw here

  good_list : list_ok (slot_at text at) ≡ (not (is_plus (line_here text at)) && every is_number (values_here text at))
  unfolding list_ok assignment_at
  good_list = rw here

  module _ (f : Filled) (read : f ≡ list_read (line_here text at) (lines_behind text at)) where
    pub given_list : (good : Bool) → good ≡ (f.plain && f.numbers) → record { good = good; exact = f.exact; count = f.count } ≡ listed_of (slot_at text at)
    unfolding listed_of list_read
    given_list good g = rw (g, read, good_list, same_values)

    pub given_kept : (out after : List ℕ) → after ≡ stored (numbers (values_here text at)) out → take f.count after ≡ take (length out) (numbers (values_given (slot_at text at)))
    unfolding list_read
    given_kept out after e =
        rw (e, same_values) (kept_front (numbers (values_here text at)) out f.count (rw (read, length_map (λ v. unsigned (whole v)) (values_here text at))))

  module _ (f : Filled) (read : f ≡ rows_read (line_here text at) (lines_behind text at)) where
    many : f.count ≡ length (values_here text at)
    unfolding rows_read
    many = rw read

    pub given_rows : (good : Bool) (i j k : ℕ) → good ≡ (f.plain && f.numbers) → i ≡ (f.count + 2) / 3 → j ≡ (f.count + 1) / 3 → k ≡ (f.count + 0) / 3
        → record { good = good; exact = f.exact; counts = i; times = j; rates = k } ≡ rows_of (slot_at text at)
    unfolding rows_of rows_read rows_exact
    given_rows good i j k g ei ej ek = rw (g, ei, ej, ek, add-zero f.count, read, good_list, same_values)

    pub given_counts : (out after : List ℕ) (k : ℕ) → after ≡ stored (numbers (counts_in (values_here text at))) out → k ≡ (f.count + 2) / 3 → take k after ≡ take (length out) (numbers (counts_in (values_given (slot_at text at))))
    given_counts out after k e m =
        rw (e, same_values)
        (kept_front (numbers (counts_in (values_here text at))) out k (m ∙ rw many (sym (lengths (values_here text at)).counts)))

    pub given_times : (n : ℕ) (ts later : List ℤ) (k : ℕ) → length ts ≡ n → later ≡ stored (times_of (times_in (values_here text at))) ts → k ≡ (f.count + 1) / 3 → take k later ≡ take n (times_of (times_in (values_given (slot_at text at))))
    given_times n ts later k l d m =
        rw (d, same_values, ← l)
        (kept_front (times_of (times_in (values_here text at))) ts k (m ∙ rw many (sym (lengths (values_here text at)).times)))

    pub given_rates : (n : ℕ) (rs later : List ℕ) (k : ℕ) → length rs ≡ n → later ≡ stored (rates_of (rates_in (values_here text at))) rs → k ≡ (f.count + 0) / 3 → take k later ≡ take n (rates_of (rates_in (values_given (slot_at text at))))
    given_rates n rs later k l d m =
        rw (d, same_values, ← l)
        (kept_front (rates_of (rates_in (values_here text at))) rs k (m ∙ rw (many, add-zero (length (values_here text at))) (sym (lengths (values_here text at)).rates)))

-- All five lists.
module _ (g : ℕ → List Assignment) (m o s e : Listed) (c : Rows)
    (em : m ≡ listed_of (g 4)) (eo : o ≡ listed_of (g 5)) (es : s ≡ listed_of (g 8)) (ee : e ≡ listed_of (g 9)) (ec : c ≡ rows_of (g 7)) where
  pub lists_good_lem : (x : Bool) → x ≡ all_of (m.good ∷ o.good ∷ c.good ∷ s.good ∷ e.good ∷ []) → x ≡ lists_good g
  unfolding lists_good listed_of rows_of
  lists_good_lem x h = h ∙ rw (em, eo, es, ee, ec)

  pub lists_exact_lem : (x : Bool) → x ≡ all_of (m.exact ∷ o.exact ∷ c.exact ∷ s.exact ∷ e.exact ∷ []) → x ≡ lists_exact g
  unfolding lists_exact listed_of rows_of
  lists_exact_lem x h = h ∙ rw (em, eo, es, ee, ec)

pub list_length : (l : Listed) (g : List Assignment) → l ≡ listed_of g → l.count ≡ length (numbers (values_given g))
unfolding listed_of
list_length l g e = rw (e, length_map (λ v. unsigned (whole v)) (values_given g))

pub rows_lengths : (c : Rows) (g : List Assignment) → c ≡ rows_of g → (c.counts ≡ length (numbers (counts_in (values_given g)))) × (c.times ≡ length (times_of (times_in (values_given g)))) × (c.rates ≡ length (rates_of (rates_in (values_given g))))
unfolding rows_of
rows_lengths c g e = let l = lengths (values_given g) in rw e (sym l.counts, sym l.times, sym l.rates)

-- the place of a list
module _ (n : ℕ) (slots : List ℕ) (p : Placed n slots) where
  pub place_4 : get_or slots 4 0 < n
  place_4 = p.place 4 (omega arith)

  pub place_5 : get_or slots 5 0 < n
  place_5 = p.place 5 (omega arith)

  pub place_7 : get_or slots 7 0 < n
  place_7 = p.place 7 (omega arith)

  pub place_8 : get_or slots 8 0 < n
  place_8 = p.place 8 (omega arith)

  pub place_9 : get_or slots 9 0 < n
  place_9 = p.place 9 (omega arith)

-- what is said by an array's length, by its room
pub front_roomed : {A : Type 0} (xs ys : List A) (n room : ℕ) → n ≡ room → xs ≡ take n ys → xs ≡ take room ys
front_roomed xs ys n room l e = rw (← l) e
