-- The loops over the values of an assignment: what is read so far, and what is left from here on.
--     Going             count, numbers: for lists and rows alike
--     ListFill          a list of whole numbers
--     RowFill           rows of three, by their columns
use Prim.Native.Nat.{ℕ, suc, ◌+◌, ◌-◌, ◌/◌, ◌%◌, ◌<◌}
use mathlib.Core.Path.{◌≡◌, refl, sym, ◌∙◌}
use mathlib.Core.Bool.{Bool, true, false, not, ◌&&◌, cond, and-true}
use mathlib.Core.List.{List, [], ◌∷◌, map}
use lib.Dec.{eqb}
use lib.IntN.{ℤ}
use lib.ListN.{length, set, length-set}
use native.Mathlib.Nat.{add-zero, zero-add}
use native.Mathlib.Omega.{arith}
use borrow.Author.Tests.{eqb-true, eqb-false, ne_eqb, not-true, not-false}
use Rattle.base.proofs.Tests.{by_test}
use Rattle.kernel_rules.specs.declared.Number.{Number}
use Rattle.kernel_rules.specs.declared.Number.TheVariants.{Malformed}
use Rattle.kernel_rules.specs.Lines.{part}
use Rattle.kernel_rules.specs.Numbers.{is_number, number_in}
use Rattle.kernel_rules.specs.Assignments.{is_plus, values_of}
use Rattle.kernel_rules.specs.Tables.{every, whole, is_unsigned, unsigned, is_signed, column, counts_in, times_in, rates_in, are_whole, numbers, in_nanoseconds, in_picoseconds}
use Rattle.kernel_walk.specs.declared.Value.{Value}
use Rattle.kernel_walk.specs.Places.{values_from, values_with, Within}
use Rattle.kernel_walk.proofs.Walking.{within_later, with_found, with_none}
use Rattle.kernel_values.specs.declared.Judged.{Judged}
use Rattle.kernel_values.specs.Storing.{stored, stored_from}
use Rattle.kernel_values.specs.Reads.{is_formed, signed_or0, are_times, are_rates, times_of, rates_of, exact_in, judged_in, list_read, rows_read, first_number, one_read}
use Rattle.kernel_values.proofs.Storing.{stored_all, judged}
use Rattle.kernel_values.proofs.Numbers.{formed_is}

and_assoc : (a b c : Bool) → (a && (b && c)) ≡ ((a && b) && c)
and_assoc true b c = refl
and_assoc false b c = refl

-- a test of every value, of which `good` tells the answer so far
every_turn :
    (p : List ℕ → Bool) (E good : Bool) (rest : List (List ℕ)) (s : List ℕ) (left : List (List ℕ))
    → E ≡ (good && every p rest)
    → rest ≡ s ∷ left
    → E ≡ ((good && p s) && every p left)
unfolding every
every_turn p E good rest s left e q = e ∙ rw q (and_assoc good (p s) (every p left))

every_end : (p : List ℕ → Bool) (E good : Bool) (rest : List (List ℕ)) → E ≡ (good && every p rest) → rest ≡ [] → good ≡ E
unfolding every
every_end p E good rest e q = sym (e ∙ rw q (and-true good))

-- a value that was found, and the next
module _ (text : List ℕ) (v : Value) where
  found_values : (w : Value) → v.found ≡ true → values_with text w ≡ values_from text v.to v.end v.next → values_with text v ≡ part text v.from v.to ∷ values_with text w
  found_values w f e = first f ∙ rw (← e)
    where
      first : v.found ≡ true → values_with text v ≡ part text v.from v.to ∷ values_from text v.to v.end v.next
      first f = with_found text v f

-- What is read so far and what is left, whatever is stored.
pub record Going (text : List ℕ) (vs : List (List ℕ)) (v : Value) (count : ℕ) (good : Bool) : Type 0 where
  pub within : Within text count v
  pub left : length vs ≡ count + length (values_with text v)
  pub formed : every is_number vs ≡ (good && every is_number (values_with text v))

pub going_start :
    (text : List ℕ) (at : ℕ) (vs : List (List ℕ)) (v : Value)
    → values_with text v ≡ vs
    → Within text at v
    → Going text vs v 0 true
going_start text at vs v e w =
    record { within = within_later text 0 at v (omega arith) w; left = rw e (sym (zero-add (length vs))); formed = rw e }

module _ (text : List ℕ) (vs : List (List ℕ)) (v : Value) (count : ℕ) (good : Bool) (g : Going text vs v count good) (f : v.found ≡ true) where
  -- a value takes a byte of the text at least
  pub going_less : length text - (count + 1) < length text - count
  going_less = omega (arith, g.within.behind, g.within.some f, g.within.line, g.within.onward, g.within.text_end)

  pub going_turn :
      (w : Value) (x next : Bool)
      → values_with text w ≡ values_from text v.to v.end v.next
      → Within text v.to w
      → x ≡ is_number (part text v.from v.to)
      → next ≡ (good && x)
      → Going text vs w (count + 1) next
  unfolding every
  going_turn w x next e i ex en =
      record {
        within = within_later text (count + 1) v.to w (omega (arith, g.within.behind, g.within.some f)) i;
        left = g.left ∙ rw (found_values text v w f e) (omega arith);
        formed =
            rw (en, ex)
            (every_turn is_number (every is_number vs) good (values_with text v) (part text v.from v.to) (values_with text w) g.formed (found_values text v w f e));
      }

module _ (text : List ℕ) (vs : List (List ℕ)) (v : Value) (count : ℕ) (good : Bool) (g : Going text vs v count good) (f : v.found ≡ false) where
  count_all : count ≡ length vs
  count_all = sym (g.left ∙ rw (with_none text v f) (add-zero count))

  formed_all : good ≡ every is_number vs
  formed_all = every_end is_number (every is_number vs) good (values_with text v) g.formed (with_none text v f)

-- A list of whole numbers, stored one after the other.
pub record ListFill (text : List ℕ) (vs : List (List ℕ)) (out₀ : List ℕ) (v : Value) (count : ℕ) (good exact : Bool) (out : List ℕ) : Type 0 where
  pub going : Going text vs v count good
  pub exactly : are_whole vs ≡ (exact && are_whole (values_with text v))
  pub kept : stored_from out₀ 0 (numbers vs) ≡ stored_from out count (numbers (values_with text v))
  pub room : length out ≡ length out₀

pub list_start :
    (text : List ℕ) (at : ℕ) (vs : List (List ℕ)) (v : Value) (out : List ℕ)
    → values_with text v ≡ vs
    → Within text at v
    → ListFill text vs out v 0 true true out
list_start text at vs v out e w = record { going = going_start text at vs v e w; exactly = rw e; kept = rw e; room = refl }

module _ (text : List ℕ) (vs : List (List ℕ)) (out₀ : List ℕ) (v : Value) (count : ℕ) (good exact : Bool) (out : List ℕ) (g : ListFill text vs out₀ v count good exact out) where
  pub list_turn :
      (n : Number) (j : Judged) (now : List ℕ) (good' exact' : Bool) (w : Value)
      → v.found ≡ true
      → n ≡ number_in 0 (part text v.from v.to)
      → j ≡ judged (is_formed n) (is_unsigned n)
      → now ≡ set out count (unsigned n)
      → good' ≡ (good && j.number)
      → exact' ≡ (exact && j.exact)
      → values_with text w ≡ values_from text v.to v.end v.next
      → Within text v.to w
      → ListFill text vs out₀ w (count + 1) good' exact' now
  unfolding stored_from
  list_turn n j now good' exact' w f en ej eo eg ee e i =
      record {
        going = going_turn text vs v count good g.going f w j.number good' e i (rw (ej, en) (formed_is 0 (part text v.from v.to))) eg;
        exactly =
            rw (ee, ej, en)
            (every_turn (λ u. is_unsigned (whole u)) (are_whole vs) exact (values_with text v) (part text v.from v.to) (values_with text w) g.exactly (found_values text v w f e));
        kept = g.kept ∙ rw (found_values text v w f e, eo, en);
        room = rw (eo, length-set out count (unsigned n)) g.room;
      }

  pub list_less : v.found ≡ true → length text - (count + 1) < length text - count
  list_less f = going_less text vs v count good g.going f

  pub list_kept : v.found ≡ false → out ≡ stored (numbers vs) out₀
  unfolding stored_from
  list_kept f = sym (sym (stored_all out₀ (numbers vs)) ∙ (g.kept ∙ rw (with_none text v f)))

pub list_read_lem :
    (text l : List ℕ) (ls : List (List ℕ)) (out₀ : List ℕ) (v : Value) (count : ℕ) (good exact : Bool) (out : List ℕ) (plain : Bool)
    → ListFill text (values_of l ls) out₀ v count good exact out
    → v.found ≡ false
    → plain ≡ not (is_plus l)
    → record { plain = plain; count = count; numbers = good; exact = exact } ≡ list_read l ls
unfolding list_read
list_read_lem text l ls out₀ v count good exact out plain g f p =
    rw (p, count_all text (values_of l ls) v count good g.going f, formed_all text (values_of l ls) v count good g.going f, every_end (λ u. is_unsigned (whole u)) (are_whole (values_of l ls)) exact (values_with text v) g.exactly (with_none text v f))

-- The columns of rows of three: how many of the values from number j on come before the next of column k, and the row that it is for.
unfoldable pub before : ℕ → ℕ → ℕ
before k j = (k + 3 - j % 3) % 3

unfoldable pub row_of : ℕ → ℕ → ℕ
row_of k j = (j + 2 - k) / 3

module _ (k j : ℕ) (h : k < 3) where
  module _ (e : j % 3 ≡ k) where
    here_before : before k j ≡ 0
    unfolding before
    here_before = omega arith

    here_row : row_of k j ≡ j / 3
    unfolding row_of
    here_row = omega arith

    next_before : before k (j + 1) ≡ 2
    unfolding before
    next_before = omega arith

    next_row : row_of k (j + 1) ≡ j / 3 + 1
    unfolding row_of
    next_row = omega arith

  module _ (e : j % 3 ≡ k → ⊥) where
    past_before : before k j ≡ suc (before k (j + 1))
    unfolding before
    past_before = omega arith

    past_row : row_of k j ≡ row_of k (j + 1)
    unfolding row_of
    past_row = omega arith

  column_stored :
      {A : Type 0} (f : List ℕ → A) (out : List A) (s : List ℕ) (left : List (List ℕ))
      → stored_from out (row_of k j) (map f (column 3 (before k j) (s ∷ left)))
      ≡ stored_from (cond (eqb (j % 3) k) (set out (j / 3) (f s)) out) (row_of k (j + 1)) (map f (column 3 (before k (j + 1)) left))
  unfolding stored_from column
  column_stored f out s left =
      by_test (eqb (j % 3) k)
      (λ t. let e = eqb-true (j % 3) k t in rw (t, here_before e, here_row e, next_before e, next_row e))
      (λ t. let e = eqb-false (j % 3) k t in rw (t, past_before e, past_row e))

  column_every :
      (p : List ℕ → Bool) (s : List ℕ) (left : List (List ℕ))
      → every p (column 3 (before k j) (s ∷ left)) ≡ (cond (eqb (j % 3) k) (p s) true && every p (column 3 (before k (j + 1)) left))
  unfolding every column
  column_every p s left =
      by_test (eqb (j % 3) k)
      (λ t. let e = eqb-true (j % 3) k t in rw (t, here_before e, next_before e))
      (λ t. let e = eqb-false (j % 3) k t in rw (t, past_before e))

and-false : (a : Bool) → (a && false) ≡ false
and-false true = refl
and-false false = refl

regroup : (x y z a b c : Bool) → ((x && a) && ((y && b) && (z && c))) ≡ ((x && (y && z)) && (a && (b && c)))
regroup false y z a b c = refl
regroup true false z a b c = and-false a
regroup true true false a b c = rw (and-false b) (and-false a)
regroup true true true a b c = refl

-- what is left of the three columns from number j on
unfoldable pub columns_exact : ℕ → List (List ℕ) → Bool
columns_exact j left = are_whole (column 3 (before 0 j) left) && (are_times (column 3 (before 1 j) left) && are_rates (column 3 (before 2 j) left))

columns_turn : (j : ℕ) (s : List ℕ) (left : List (List ℕ)) → columns_exact j (s ∷ left) ≡ (exact_in (j % 3) s && columns_exact (j + 1) left)
unfolding columns_exact exact_in
columns_turn j s left =
    rw (column_every 0 j (omega arith) (λ u. is_unsigned (whole u)) s left, column_every 1 j (omega arith) (λ u. is_signed (in_nanoseconds u)) s left, column_every 2 j (omega arith) (λ u. is_unsigned (in_picoseconds u)) s left)
    (regroup
    (cond (eqb (j % 3) 0) (is_unsigned (whole s)) true)
    (cond (eqb (j % 3) 1) (is_signed (in_nanoseconds s)) true)
    (cond (eqb (j % 3) 2) (is_unsigned (in_picoseconds s)) true)
    (are_whole (column 3 (before 0 (j + 1)) left))
    (are_times (column 3 (before 1 (j + 1)) left))
    (are_rates (column 3 (before 2 (j + 1)) left)))

-- The three lists, each stored by its column.
pub record RowFill (text : List ℕ) (vs : List (List ℕ)) (counts₀ : List ℕ) (times₀ : List ℤ) (rates₀ : List ℕ) (v : Value) (count : ℕ) (good exact : Bool) (counts : List ℕ) (times : List ℤ) (rates : List ℕ) : Type 0 where
  pub going : Going text vs v count good
  pub exactly : columns_exact 0 vs ≡ (exact && columns_exact count (values_with text v))
  pub counts_kept : stored_from counts₀ 0 (numbers (counts_in vs)) ≡ stored_from counts (row_of 0 count) (numbers (column 3 (before 0 count) (values_with text v)))
  pub times_kept : stored_from times₀ 0 (times_of (times_in vs)) ≡ stored_from times (row_of 1 count) (times_of (column 3 (before 1 count) (values_with text v)))
  pub rates_kept : stored_from rates₀ 0 (rates_of (rates_in vs)) ≡ stored_from rates (row_of 2 count) (rates_of (column 3 (before 2 count) (values_with text v)))
  pub counts_room : length counts ≡ length counts₀
  pub times_room : length times ≡ length times₀
  pub rates_room : length rates ≡ length rates₀

pub row_start :
    (text : List ℕ) (at : ℕ) (vs : List (List ℕ)) (v : Value) (counts : List ℕ) (times : List ℤ) (rates : List ℕ)
    → values_with text v ≡ vs
    → Within text at v
    → RowFill text vs counts times rates v 0 true true counts times rates
unfolding before row_of
row_start text at vs v counts times rates e w =
    record { going = going_start text at vs v e w; exactly = rw e; counts_kept = rw e; times_kept = rw e; rates_kept = rw e; counts_room = refl; times_room = refl; rates_room = refl }

-- a list with one column's value stored
abbrev pub put : {A : Type 0} → ℕ → ℕ → List A → ℕ → A → List A
put c k out r x = cond (eqb c k) (set out r x) out

put_length : {A : Type 0} (c k : ℕ) (out : List A) (r : ℕ) (x : A) → length (put c k out r x) ≡ length out
put_length c k out r x = by_test (eqb c k) (λ t. rw t (length-set out r x)) (λ f. rw f)

module _ (text : List ℕ) (vs : List (List ℕ)) (counts₀ : List ℕ) (times₀ : List ℤ) (rates₀ : List ℕ) (v : Value) (count : ℕ) (good exact : Bool) (counts : List ℕ) (times : List ℤ) (rates : List ℕ) (g : RowFill text vs counts₀ times₀ rates₀ v count good exact counts times rates) where
  pub row_less : v.found ≡ true → length text - (count + 1) < length text - count
  row_less f = going_less text vs v count good g.going f

  pub row_turn :
      (s : List ℕ) (j : Judged) (counts' : List ℕ) (times' : List ℤ) (rates' : List ℕ) (good' exact' : Bool) (w : Value)
      → v.found ≡ true
      → s ≡ part text v.from v.to
      → j ≡ judged_in (count % 3) s
      → counts' ≡ put (count % 3) 0 counts (count / 3) (unsigned (whole s))
      → times' ≡ put (count % 3) 1 times (count / 3) (signed_or0 (in_nanoseconds s))
      → rates' ≡ put (count % 3) 2 rates (count / 3) (unsigned (in_picoseconds s))
      → good' ≡ (good && j.number)
      → exact' ≡ (exact && j.exact)
      → values_with text w ≡ values_from text v.to v.end v.next
      → Within text v.to w
      → RowFill text vs counts₀ times₀ rates₀ w (count + 1) good' exact' counts' times' rates'
  unfolding judged_in
  row_turn s j counts' times' rates' good' exact' w f es ej ec et er eg ee e i =
      record {
        going = going_turn text vs v count good g.going f w j.number good' e i (rw (ej, es)) eg;
        exactly = g.exactly ∙ rw (first, columns_turn count s (values_with text w), ee, ej) (and_assoc exact (exact_in (count % 3) s) (columns_exact (count + 1) (values_with text w)));
        counts_kept = g.counts_kept ∙ rw (first, ec) (column_stored 0 count (omega arith) (λ u. unsigned (whole u)) counts s (values_with text w));
        times_kept = g.times_kept ∙ rw (first, et) (column_stored 1 count (omega arith) (λ u. signed_or0 (in_nanoseconds u)) times s (values_with text w));
        rates_kept = g.rates_kept ∙ rw (first, er) (column_stored 2 count (omega arith) (λ u. unsigned (in_picoseconds u)) rates s (values_with text w));
        counts_room = rw ec (put_length (count % 3) 0 counts _ _ ∙ g.counts_room);
        times_room = rw et (put_length (count % 3) 1 times _ _ ∙ g.times_room);
        rates_room = rw er (put_length (count % 3) 2 rates _ _ ∙ g.rates_room);
      }
    where
      first : values_with text v ≡ s ∷ values_with text w
      first = found_values text v w f e ∙ rw es

  module _ (f : v.found ≡ false) where
    none_left : values_with text v ≡ []
    none_left = with_none text v f

    pub row_counts : counts ≡ stored (numbers (counts_in vs)) counts₀
    unfolding stored_from column
    row_counts = sym (sym (stored_all counts₀ (numbers (counts_in vs))) ∙ (g.counts_kept ∙ rw none_left))

    pub row_times : times ≡ stored (times_of (times_in vs)) times₀
    unfolding stored_from column
    row_times = sym (sym (stored_all times₀ (times_of (times_in vs))) ∙ (g.times_kept ∙ rw none_left))

    pub row_rates : rates ≡ stored (rates_of (rates_in vs)) rates₀
    unfolding stored_from column
    row_rates = sym (sym (stored_all rates₀ (rates_of (rates_in vs))) ∙ (g.rates_kept ∙ rw none_left))

    row_exact : exact ≡ columns_exact 0 vs
    unfolding columns_exact column every
    row_exact = sym (g.exactly ∙ rw none_left (and-true exact))

pub row_read :
    (text l : List ℕ) (ls : List (List ℕ)) (counts₀ : List ℕ) (times₀ : List ℤ) (rates₀ : List ℕ) (v : Value) (count : ℕ) (good exact : Bool) (counts : List ℕ) (times : List ℤ) (rates : List ℕ) (plain : Bool)
    → RowFill text (values_of l ls) counts₀ times₀ rates₀ v count good exact counts times rates
    → v.found ≡ false
    → plain ≡ not (is_plus l)
    → record { plain = plain; count = count; numbers = good; exact = exact } ≡ rows_read l ls
unfolding rows_read columns_exact before
row_read text l ls counts₀ times₀ rates₀ v count good exact counts times rates plain g f p =
    rw (p, count_all text (values_of l ls) v count good g.going f, formed_all text (values_of l ls) v count good g.going f, row_exact text (values_of l ls) counts₀ times₀ rates₀ v count good exact counts times rates g f)

-- One value.
several : (vs : List (List ℕ)) → 0 < length vs → eqb (suc (length vs)) 1 ≡ false
several vs h = ne_eqb (suc (length vs)) 1 (λ e. omega arith)

module _ (text l : List ℕ) (ls : List (List ℕ)) (v : Value) (plain : Bool) (e : values_with text v ≡ values_of l ls) (p : plain ≡ not (is_plus l)) where
  pub one_none : not v.found ≡ true → record { plain = plain; single = false; number = Malformed } ≡ one_read l ls
  unfolding one_read first_number
  one_none f = rw (p, ← e, with_none text v (not-true _ f))

  pub one_some :
      (n : Number) (w : Value)
      → not v.found ≡ false
      → n ≡ number_in 0 (part text v.from v.to)
      → values_with text w ≡ values_from text v.to v.end v.next
      → record { plain = plain; single = not w.found; number = n } ≡ one_read l ls
  unfolding one_read first_number
  one_some n w f en ew = rw (p, ← e, found_values text v w (not-false _ f) ew, en, single w.found refl)
    where
      single : (b : Bool) → w.found ≡ b → not b ≡ eqb (suc (length (values_with text w))) 1
      single true t = sym (several (values_with text w) (rw (with_found text w t) (omega arith)))
      single false t = rw (with_none text w t)
