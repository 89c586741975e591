-- What each way out of `check` says of the segments: 3 and where, or that they are accepted. The code has n counts, m times and k rates,
-- wherever they lie.
use Prim.Native.Nat.{ℕ, ◌+◌, ◌-◌, ◌≤◌, ◌<◌, min}
use mathlib.Core.Path.{◌≡◌, refl, sym, ◌∙◌}
use mathlib.Core.Bool.{Bool, true, false, not, ◌&&◌}
use mathlib.Core.List.{List}
use mathlib.Core.Option.{some}
use lib.IntN.{ℤ}
use lib.Dec.{leb}
use lib.ListN.{length}
use native.Mathlib.Omega.{arith}
use native.Mathlib.Numerals.{add-one}
use borrow.Author.Count.{below_more}
use borrow.Author.Tests.{eqb-true, leb-true, not-true, not-false}
use Rattle.base.proofs.Scans.{first_not_is, first_not_none}
use Rattle.base.proofs.Tests.{all_of_head, all_of_tail}
use Rattle.rules.specs.declared.Segment.{Segment}
use Rattle.rules.specs.Answer.{answer, refused, placed, unless_at, Numbered}
use Rattle.rules.specs.Segments.{Segments, segments, row_of, row_before, row_ok, follows, line_ok, segment_ok_at, segment_lengths_ok, segments_fault}
use Rattle.segments.specs.Rows.{accepted_segments, lengths_ok, RowIn}
use Rattle.segments.proofs.Ends.{inner_row, last_row, not_grown}

-- the rows before i are good, and row i is there and after the one before it
pub record RowsTo (unit total : ℕ) (cs : List ℕ) (ts : List ℤ) (rs : List ℕ) (i : ℕ) : Type 0 where
  pub within : i < length cs
  pub good : (j : ℕ) → j < i → segment_ok_at unit total (segments cs ts rs) j ≡ true
  pub after : follows (row_before (segments cs ts rs) i) (row_of (segments cs ts rs) i) ≡ true

-- what `lengths_ok` says of the lists
module _ (n m k : ℕ) where
  module _ {a : Bool} (lengths : a ≡ lengths_ok n m k) (good : not a ≡ false) where
    test_holds : lengths_ok n m k ≡ true
    test_holds = sym lengths ∙ not-false a good

    one_length : (m ≡ n) × (k ≡ n) × (1 ≤ n)
    unfolding lengths_ok
    one_length =
        let rest = all_of_tail _ _ test_holds in
        (eqb-true m n (all_of_head _ _ test_holds), eqb-true k n (all_of_head _ _ rest), leb-true 1 n (all_of_head _ _ (all_of_tail _ _ rest)))

    pub some_row : 1 ≤ n
    some_row = one_length.2

    -- a row before the last, the one after it, and the last
    module _ (cs : List ℕ) (ts : List ℤ) (rs : List ℕ) (en : n ≡ length cs) (em : m ≡ length ts) (ek : k ≡ length rs) where
      row_in : (i : ℕ) → i < n → RowIn (segments cs ts rs) i
      row_in i h = record { count = omega arith; time = omega (arith, one_length.0); rate = omega (arith, one_length.1) }

      pub inner_in : (i : ℕ) → i < n - 1 → RowIn (segments cs ts rs) i
      inner_in i h = row_in i (omega arith)

      pub next_in : (i : ℕ) → i < n - 1 → RowIn (segments cs ts rs) (i + 1)
      next_in i h = row_in (i + 1) (omega arith)

      pub last_in : RowIn (segments cs ts rs) (n - 1)
      last_in = row_in (n - 1) (omega (arith, some_row))

row_before_lem : (g : Segments) (i : ℕ) → row_before g (i + 1) ≡ some (row_of g i)
unfolding row_before
row_before_lem g i = rw add-one

module _ (unit total : ℕ) (cs : List ℕ) (ts : List ℤ) (rs : List ℕ) where
  abbrev row_good : ℕ → Bool
  row_good i = segment_ok_at unit total (segments cs ts rs) i

  -- 3 at the place i is the answer
  abbrev Refuses : ℕ → Type 0
  Refuses i = (r : Numbered) → r ≡ placed 3 i → refused r ≡ accepted_segments unit total (segments cs ts rs)

  -- row i before the last
  module _ (n : ℕ) (en : n ≡ length cs) (i : ℕ) (w : RowsTo unit total cs ts rs i) (more : i < n - 1) (row next : Segment) (e : row ≡ row_of (segments cs ts rs) i) (f : next ≡ row_of (segments cs ts rs) (i + 1)) {b : Bool} (test : b ≡ (row_ok unit row && line_ok unit row next.count)) where
    inner_test : row_good i ≡ b
    inner_test = inner_row unit total (segments cs ts rs) i w.after (omega arith) ∙ rw (test, e, f)

    module _ (y : not b ≡ false) {c : Bool} (later : c ≡ follows (some row) next) where
      good_to : (j : ℕ) → j < i + 1 → row_good j ≡ true
      good_to = below_more _ _ w.good (inner_test ∙ not-false b y)

      grown : follows (row_before (segments cs ts rs) (i + 1)) (row_of (segments cs ts rs) (i + 1)) ≡ c
      grown = rw (row_before_lem (segments cs ts rs) i, later, e, f)

      pub rows_turn : not c ≡ false → RowsTo unit total cs ts rs (i + 1)
      rows_turn h = record { within = omega arith; good = good_to; after = grown ∙ not-false c h }

  module _ (n m k : ℕ) (en : n ≡ length cs) (em : m ≡ length ts) (ek : k ≡ length rs) {a : Bool} (lengths : a ≡ lengths_ok n m k) where
    length_test_is : segment_lengths_ok (segments cs ts rs) ≡ a
    unfolding segment_lengths_ok lengths_ok
    length_test_is = rw (lengths, en, em, ek)

    pub lengths_out : not a ≡ true → (i : ℕ) → i ≡ min n (min m k) → Refuses i
    unfolding accepted_segments segments_fault unless_at
    lengths_out bad i e r p = rw (p, length_test_is ∙ not-true a bad, e, en, em, ek)

    module _ (good : not a ≡ false) where
      good_lengths : segment_lengths_ok (segments cs ts rs) ≡ true
      good_lengths = length_test_is ∙ not-false a good

      pub rows_start : RowsTo unit total cs ts rs 0
      unfolding row_before follows
      rows_start = record { within = omega (arith, some_row n m k lengths good); good = λ j l. absurd (omega arith); after = refl }

      row_out : (i : ℕ) → i < n → ((j : ℕ) → j < i → row_good j ≡ true) → row_good i ≡ false → Refuses i
      unfolding accepted_segments segments_fault unless_at
      row_out i l before f r p = rw (p, good_lengths, first_not_is row_good (length cs) i (record { below = rw en at l; fails_here = f; before = before }))

      module _ (i : ℕ) (w : RowsTo unit total cs ts rs i) where
        module _ (more : i < n - 1) (row next : Segment) (e : row ≡ row_of (segments cs ts rs) i) (f : next ≡ row_of (segments cs ts rs) (i + 1)) {b : Bool} (test : b ≡ (row_ok unit row && line_ok unit row next.count)) where
          pub row_bad : not b ≡ true → Refuses i
          row_bad h = row_out i (omega (arith, w.within)) w.good (inner_test n en i w more row next e f test ∙ not-true b h)

          pub next_bad : not b ≡ false → {c : Bool} → c ≡ follows (some row) next → not c ≡ true → Refuses (i + 1)
          next_bad y {c} later h =
              row_out (i + 1) (omega arith) (good_to n en i w more row next e f test y later)
              (not_grown unit total (segments cs ts rs) (i + 1) (grown n en i w more row next e f test y later ∙ not-true c h))

        module _ (over : n - 1 ≤ i) (row : Segment) (e : row ≡ row_of (segments cs ts rs) (n - 1)) {b : Bool} (test : b ≡ ((row_ok unit row && line_ok unit row total) && leb row.count total)) where
          at_last : n - 1 ≡ i
          at_last = omega (arith, w.within)

          last_test : row_good i ≡ b
          last_test = last_row unit total (segments cs ts rs) i w.after (omega arith) ∙ rw (test, e, at_last)

          pub last_bad : not b ≡ true → Refuses (n - 1)
          last_bad h = rw at_last (row_out i (omega (arith, w.within)) w.good (last_test ∙ not-true b h))

          pub all_good : not b ≡ false → answer tt ≡ accepted_segments unit total (segments cs ts rs)
          unfolding accepted_segments segments_fault unless_at
          all_good h = rw (good_lengths, first_not_none row_good (length cs) every)
            where
              every : (j : ℕ) → j < length cs → row_good j ≡ true
              every j l = below_more (λ x. row_good x ≡ true) i w.good (last_test ∙ not-false b h) j (omega arith)
