-- Where the fields of a clock text are refused.
use Prim.Native.Nat.{ℕ, zero, suc, ◌+◌, ◌-◌, ◌≤◌, ◌<◌}
use mathlib.Core.Path.{◌≡◌, refl, sym, ap, subst, ◌∙◌}
use mathlib.Core.Bool.{Bool, true, false, cond, true≢false}
use mathlib.Core.List.{List, [], ◌∷◌, map}
use mathlib.Core.Option.{none, some, some-injective, none-ne-some, some-ne-none}
use lib.Dec.{leb, ltb}
use lib.ListN.{length, get_or, drop, drop_of_length-le}
use borrow.Author.Tests.{leb-true, leb-false, ltb-true, ltb-false, eqb-true, eq-eqb}
use native.Mathlib.Omega.{arith}
use Rattle.base.proofs.Lists.{drop_next}
use Rattle.base.proofs.Tests.{by_test, not_both, and_both, and_first, and_second}
use Rattle.rules.specs.Limits.{largest_field, largest_count}
use Rattle.rules.specs.declared.Reading.{Reading}
use Rattle.rules.specs.Answer.{Answer, fails_at}
use Rattle.rules.specs.Text.{
  surplus_at,
  not_above,
  not_below,
  each_field,
  sum_of,
  fields_count,
  value_from,
  is_digit,
  digit_at,
  Field,
  is_present,
  first_digit,
  value_of,
}
use Rattle.rules.proofs.Rows.{tabulate_length, tabulate_at}
use Rattle.places.proofs.Placed.{Placed, of_answer, of_unless, of_unless_at}
use Rattle.places.proofs.Fields.{ended_up}
use Rattle.places.proofs.Below.{below_next, from_next}
use Rattle.places.specs.Fields.{
  field_at,
  fields_in,
  in_field,
  those,
  field_in,
  clock_fields,
  FirstDigit,
  EmptyField,
  GoodField,
  GoodBefore,
  FieldPlace,
  surplus_digit,
  surplus_empty,
  above_limit,
  below_offset,
  large_sum,
}

-- the first of the numbers of which p holds
data FirstOf (p : ℕ → Bool) (j n : ℕ) : List ℕ → Type 0 where
  found : (i : ℕ) (is : List ℕ) → j ≤ i → i < j + n → p i ≡ true → ((m : ℕ) → j ≤ m → m < i → p m ≡ false) → FirstOf p j n (i ∷ is)
  missing : ((m : ℕ) → j ≤ m → m < j + n → p m ≡ false) → FirstOf p j n []

later : (p : ℕ → Bool) (j n : ℕ) (is : List ℕ) → p j ≡ false → FirstOf p (j + 1) n is → FirstOf p j (suc n) is
later p j n is f (found i rest a b t g) = found i rest (omega arith) (omega arith) t (from_next (λ m. p m ≡ false) j i g f)
later p j n is f (missing g) = missing (from_next (λ m. p m ≡ false) j (j + suc n) (λ m x y. g m x (omega arith)) f)

those_first : (p : ℕ → Bool) (n j : ℕ) → FirstOf p j n (those p j n)
unfolding those
those_first p zero j = missing (λ m a b. absurd (omega arith))
those_first p (suc n) j =
    by_test (p j)
    (λ t. rw t (found j _ (omega arith) (omega arith) t (λ m a b. absurd (omega arith))))
    (λ f. rw f (later p j n _ f (those_first p n (j + 1))))

-- Field k of a clock text has a first digit, or none at all.
data FieldCase (s : List ℕ) (start k : ℕ) (f : Field) : Type 0 where
  present : FirstDigit s start k (first_digit f) → is_present f ≡ true → FieldCase s start k f
  empty : EmptyField s start k → f ≡ [] → FieldCase s start k f

module _ (s : List ℕ) (start k : ℕ) (a : start ≤ length s) where
  abbrev digits : List ℕ → Field
  digits is = map (λ i. digit_at i (get_or s i 0)) is

  not_of_field : (m : ℕ) → in_field s start k m ≡ false → is_digit (get_or s m 0) ≡ true → field_at s start m ≡ k → ⊥
  unfolding in_field
  not_of_field m f d e = not_both (and_both d (eq-eqb (field_at s start m) k e)) f

  by_first : (is : List ℕ) → FirstOf (in_field s start k) start (length s - start) is → FieldCase s start k (digits is)
  unfolding in_field
  by_first is (found i rest x y t g) =
      present
      (record {
        from = x;
        below = omega arith;
        digit = and_first (is_digit (get_or s i 0)) _ t;
        in_field_lem = here;
        first = λ j u v d. earlier j v (not_of_field j (g j u v) d);
      })
      refl
    where
      here : field_at s start i ≡ k
      here = eqb-true (field_at s start i) k (and_second (is_digit (get_or s i 0)) _ t)

      earlier : (j : ℕ) → j < i → (field_at s start j ≡ k → ⊥) → field_at s start j < k
      earlier j v n = omega (arith, ended_up s start (j + 1) (i + 1) (omega arith), here)
  by_first is (missing g) = empty (λ i x y d. not_of_field i (g i x (omega arith)) d) refl

  field_case : FieldCase s start k (field_in s start k)
  unfolding field_in
  field_case = by_first _ (those_first (in_field s start k) (length s - start) start)

-- a test that is to hold at i
fails_none : (i : ℕ) (t : Bool) → fails_at i t ≡ none → t ≡ true
unfolding fails_at
fails_none i true h = refl
fails_none i false h = absurd (some-ne-none i h)

fails_some : (i j : ℕ) (t : Bool) → fails_at i t ≡ some j → (t ≡ false) × (i ≡ j)
unfolding fails_at
fails_some i j true h = absurd (none-ne-some j h)
fails_some i j false h = (refl, some-injective i j h)

-- what the tests of one field say
above_fails : (f : Field) → not_above f ≡ false → (is_present f ≡ true) × (largest_field < value_of f)
unfolding not_above
above_fails [] h = absurd (true≢false h)
above_fails (d ∷ ds) h = (refl, leb-false (value_of (d ∷ ds)) largest_field h)

above_holds : (f : Field) → not_above f ≡ true → value_of f ≤ largest_field
unfolding not_above value_of value_from
above_holds [] h = omega arith
above_holds (d ∷ ds) h = leb-true (value_of (d ∷ ds)) largest_field h

below_fails : (f : Field) (o : ℕ) → not_below f o ≡ false → (is_present f ≡ true) × (value_of f < o)
unfolding not_below
below_fails [] o h = absurd (true≢false h)
below_fails (d ∷ ds) o h = (refl, leb-false o (value_of (d ∷ ds)) h)

below_holds : (f : Field) (o : ℕ) → not_below f o ≡ true → is_present f ≡ true → o ≤ value_of f
unfolding not_below
below_holds [] o h t = absurd (true≢false (sym t))
below_holds (d ∷ ds) o h t = leb-true o (value_of (d ∷ ds)) h

-- a field with digits has a first one, and one with a first digit has digits
has_first : {s : List ℕ} {start k : ℕ} {f : Field} → FieldCase s start k f → is_present f ≡ true → FirstDigit s start k (first_digit f)
has_first (present w p) t = w
has_first (empty w q) t = absurd (true≢false (sym t ∙ ap is_present q))

has_digits : {s : List ℕ} {start k : ℕ} {f : Field} → FieldCase s start k f → (i : ℕ) → FirstDigit s start k i → is_present f ≡ true
has_digits (present w p) i v = p
has_digits (empty w q) i v = absurd (w i v.from v.below v.digit v.in_field_lem)

module _ (ms os s : List ℕ) (start : ℕ) (a : start ≤ length s) where
  abbrev Place : ℕ → ℕ → Type 0
  Place k i = FieldPlace ms os s start k i

  abbrev fields : List Field
  fields = clock_fields s start

  many : length fields ≡ fields_in s start
  many = tabulate_length (field_in s start) (fields_in s start)

  -- field k and the rest
  next_field : (k : ℕ) → k < fields_in s start → drop k fields ≡ field_in s start k ∷ drop (k + 1) fields
  next_field k h = drop_next fields k [] (rw many h) ∙ ap (λ f. f ∷ drop (k + 1) fields) (tabulate_at (field_in s start) [] (fields_in s start) k h)

  no_field : (k : ℕ) → fields_in s start ≤ k → drop k fields ≡ []
  no_field k h = drop_of_length-le fields {i = k} (rw many h)

  -- 7
  surplus_field : (i : ℕ) (f : Field) → length ms < fields_in s start → FieldCase s start (length ms) f
      → cond (is_present f) (first_digit f) (length s) ≡ i → Place 7 i
  surplus_field i f h (present w t) e = subst (Place 7) (rw t at e) (surplus_digit (first_digit f) w)
  surplus_field i f h (empty w q) e = subst (Place 7) (rw q at e) (surplus_empty (record { surplus = h; empty = w }))

  surplus_place : (i : ℕ) → surplus_at (length s) (drop (length ms) fields) ≡ some i → Place 7 i
  unfolding surplus_at
  surplus_place i e =
      by_test (ltb (length ms) (fields_in s start))
      (λ t. let h = ltb-true (length ms) (fields_in s start) t in
      surplus_field i (field_in s start (length ms)) h (field_case s start (length ms) a) (some-injective _ i (rw (next_field (length ms) h) at e)))
      (λ f. absurd (none-ne-some i (rw (no_field (length ms) (ltb-false (length ms) (fields_in s start) f)) at e)))

  -- one field: 9, then 8
  above_place : (k i : ℕ) → k < length os → GoodBefore os s start k → fails_at (first_digit (field_in s start k)) (not_above (field_in s start k)) ≡ some i → Place 9 i
  above_place k i b g h =
      let w = fails_some _ i _ h in
      let v = above_fails _ w.0 in
      subst (Place 9) w.1 (above_limit k _ b g (has_first (field_case s start k a) v.0) v.1)

  below_place : (k i : ℕ) → k < length os → GoodBefore os s start k → not_above (field_in s start k) ≡ true
      → fails_at (first_digit (field_in s start k)) (not_below (field_in s start k) (get_or os k 0)) ≡ some i → Place 8 i
  below_place k i b g n h =
      let w = fails_some _ i _ h in
      let v = below_fails _ _ w.0 in
      subst (Place 8) w.1 (below_offset k _ b g (has_first (field_case s start k a) v.0) (above_holds _ n) v.1)

  good_field : (k : ℕ) → not_above (field_in s start k) ≡ true → not_below (field_in s start k) (get_or os k 0) ≡ true → GoodField os s start k
  good_field k n m = record { not_above_lem = above_holds _ n; not_below_lem = λ i w. below_holds _ _ m (has_digits (field_case s start k a) i w) }

  -- the fields from k on, where those before are good
  each_place : (n k : ℕ) (r : Answer Reading) → k + n ≡ fields_in s start → GoodBefore os s start k
      → (((j : ℕ) → j < fields_in s start → j < length os → GoodField os s start j) → Placed Place r) → Placed Place (each_field (drop k fields) (drop k os) r)
  unfolding each_field
  each_place zero k r e g f = rw (no_field k (omega arith)) (f (λ j x y. g j (omega arith)))
  each_place (suc n) k r e g f =
      by_test (ltb k (length os))
      (λ t. let b = ltb-true k (length os) t in
      rw (next_field k (omega arith), drop_next os k 0 b)
      (of_unless_at Place 9 _ _ (λ i h. above_place k i b g h)
      (λ u. of_unless_at Place 8 _ _ (λ i h. below_place k i b g (fails_none _ _ u) h)
      (λ v. each_place n (k + 1) r (omega arith) (below_next (λ j. GoodField os s start j) k g (good_field k (fails_none _ _ u) (fails_none _ _ v))) f))))
      (λ o. rw (next_field k (omega arith), drop_of_length-le os {i = k} (ltb-false k (length os) o)) (f (λ j x y. g j (omega (arith, ltb-false k (length os) o)))))

  sum_place : (i : ℕ) → ((j : ℕ) → j < fields_in s start → j < length os → GoodField os s start j)
      → fails_at (length s) (leb (sum_of fields ms os) largest_count) ≡ some i → Place 9 i
  sum_place i g h =
      let w = fails_some _ i _ h in
      subst (Place 9) w.1 (large_sum (record { good = g; sum = leb-false (sum_of fields ms os) largest_count w.0 }))

  pub fields_placed : Placed Place (fields_count ms os (length s) fields)
  unfolding fields_count
  fields_placed =
      of_unless_at Place 7 _ _ surplus_place
      (λ _. of_unless Place 6 _ _
      (λ _. each_place (fields_in s start) 0 _ (omega arith) (λ j h. absurd (omega arith))
      (λ g. of_unless_at Place 9 _ _ (λ i h. sum_place i g h) (λ _. of_answer Place _))))
