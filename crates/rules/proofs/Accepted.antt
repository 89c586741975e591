-- A table is accepted exactly where its named facts hold, and slots after the n-th do not matter.
use Prim.Native.Nat.{ℕ, zero, suc, ◌+◌, ◌-◌, ◌≤◌, ◌<◌}
use mathlib.Core.Path.{◌≡◌, refl}
use mathlib.Core.Bool.{Bool, true, false, ◌||◌, cond}
use mathlib.Core.Option.{Option, none, some}
use lib.Dec.{leb}
use borrow.Author.Tests.{lt-ltb, le-ltb, le-leb, eq-eqb, ltb-true, ltb-false, leb-true, eqb-true}
use native.Mathlib.Nat.{le_trans}
use native.Mathlib.Omega.{arith}
use native.Mathlib.Numerals.{add-one}
use Rattle.base.specs.Scans.{all_of, is_none}
use Rattle.base.proofs.Tests.{by_test, not_both, and_both, and_first, and_second, or_first, or_second, all_of_head, all_of_tail}
use Rattle.base.proofs.Scans.{nothing, first_not_none, first_not_missing, sum_up}
use Rattle.rules.specs.Limits.{largest_total}
use Rattle.rules.specs.declared.Layout.{Layout}
use Rattle.rules.specs.Layout.{moduli_of, offsets_of, product_of, msf_of, layout_ok}
use Rattle.rules.specs.Partitions.{Partitions, partitions_in, length_of, lengths_before, total_of, partition_ok, partition_lengths_ok, partitions_fault, partitions_ok}
use Rattle.rules.specs.Segments.{
  Segments,
  segments_in,
  row_of,
  has_next,
  segment_end,
  row_before,
  follows,
  row_ok,
  line_ok,
  segment_ok,
  within_total,
  segment_ok_at,
  segment_lengths_ok,
  segments_fault,
  segments_ok,
}
use Rattle.rules.specs.Facts.{LayoutFacts, PartitionFacts, PartitionsFacts, SegmentFacts, Grows, SegmentsFacts}

pub layout_facts : (l : Layout) → layout_ok l ≡ true → LayoutFacts l
unfolding layout_ok
layout_facts l h =
    let h1 = all_of_tail _ _ h in
    let h2 = all_of_tail _ _ h1 in
    let h3 = all_of_tail _ _ h2 in
    let h4 = all_of_tail _ _ h3 in
    let h5 = all_of_tail _ _ h4 in
    let h6 = all_of_tail _ _ h5 in
    let h7 = all_of_tail _ _ h6 in
    record {
      fields = leb-true _ _ (all_of_head _ _ h);
      few_fields = leb-true _ _ (all_of_head _ _ h1);
      moduli = all_of_head _ _ h2;
      offsets = all_of_head _ _ h3;
      product = leb-true _ _ (all_of_head _ _ h4);
      msf = leb-true _ _ (all_of_head _ _ h5);
      delimiter_low = leb-true _ _ (all_of_head _ _ h6);
      delimiter_high = leb-true _ _ (all_of_head _ _ h7);
    }

pub layout_accepted : (l : Layout) → LayoutFacts l → layout_ok l ≡ true
unfolding layout_ok all_of
layout_accepted l f =
    and_both (le-leb _ _ f.fields)
    (and_both (le-leb _ _ f.few_fields)
    (and_both f.moduli
    (and_both f.offsets
    (and_both (le-leb _ _ f.product)
    (and_both (le-leb _ _ f.msf) (and_both (le-leb _ _ f.delimiter_low) (and_both (le-leb _ _ f.delimiter_high) refl)))))))

-- "Slots after the n-th are not looked at."
pub layout_slots : (l k : Layout) → l.n ≡ k.n → moduli_of l ≡ moduli_of k → offsets_of l ≡ offsets_of k → l.delimiter ≡ k.delimiter → layout_ok l ≡ layout_ok k
unfolding layout_ok product_of msf_of
layout_slots l k en em eo ed = rw (em, eo, en, ed)

pub partition_facts : (P : ℕ) (p : Partitions) (i : ℕ) → partition_ok P p i ≡ true → PartitionFacts P p i
unfolding partition_ok
partition_facts P p i h = record { ordered = ltb-true _ _ (all_of_head _ _ h); in-range = ltb-true _ _ (all_of_head _ _ (all_of_tail _ _ h)) }

pub partition_accepted : (P : ℕ) (p : Partitions) (i : ℕ) → PartitionFacts P p i → lengths_before p (i + 1) ≤ largest_total → partition_ok P p i ≡ true
unfolding partition_ok all_of
partition_accepted P p i f h = and_both (lt-ltb _ _ f.ordered) (and_both (lt-ltb _ _ f.in-range) (and_both (le-leb _ _ h) refl))

-- the sum up to a row
partition_sum : (P : ℕ) (p : Partitions) (i : ℕ) → partition_ok P p i ≡ true → lengths_before p (i + 1) ≤ largest_total
unfolding partition_ok
partition_sum P p i h = leb-true _ _ (all_of_head _ _ (all_of_tail _ _ (all_of_tail _ _ h)))

-- no fault: good lengths and good rows
no_fault : (t : Bool) (o : Option ℕ) (i : ℕ) → is_none (cond t o (some i)) ≡ true → (t ≡ true) × (o ≡ none)
no_fault true o i h = (refl, nothing o h)
no_fault false o i h = absurd (not_both h refl)

pub partitions_facts : (P : ℕ) (p : Partitions) → partitions_ok P p ≡ true → PartitionsFacts P p
unfolding partitions_fault partition_lengths_ok total_of
partitions_facts P p h =
    let w = no_fault _ _ _ h in
    let h0 = w.0 in
    let h1 = all_of_tail _ _ h0 in
    let h2 = all_of_tail _ _ h1 in
    let row : (i : ℕ) → i < partitions_in p → partition_ok P p i ≡ true = λ i b. first_not_missing (partition_ok P p) (partitions_in p) i w.1 b in
    let some-rows = leb-true 1 (partitions_in p) (all_of_head _ _ h1) in
    record {
      one_length = eqb-true _ _ (all_of_head _ _ h0);
      some = some-rows;
      few = leb-true _ _ (all_of_head _ _ h2);
      each = λ i b. partition_facts P p i (row i b);
      total = last_sum (partitions_in p) some-rows row;
    }
  where
    last_sum : (n : ℕ) → 1 ≤ n → ((i : ℕ) → i < n → partition_ok P p i ≡ true) → lengths_before p n ≤ largest_total
    last_sum n l f = let e : n - 1 + 1 ≡ n = omega arith in rw e at (partition_sum P p (n - 1) (f (n - 1) (omega arith)))

pub partitions_accepted : (P : ℕ) (p : Partitions) → PartitionsFacts P p → partitions_ok P p ≡ true
unfolding partitions_fault partition_lengths_ok all_of total_of lengths_before
partitions_accepted P p f =
    rw (
      eq-eqb _ _ f.one_length,
      le-leb _ _ f.some,
      le-leb _ _ f.few,
      first_not_none (partition_ok P p) (partitions_in p) (λ i b. partition_accepted P p i (f.each i b) (le_trans (sums i b) f.total)),
    )
  where
    sums : (i : ℕ) → i < partitions_in p → lengths_before p (i + 1) ≤ lengths_before p (partitions_in p)
    sums i b = sum_up (length_of p) (i + 1) (partitions_in p) (omega arith)

module _ (unit total : ℕ) (g : Segments) where
  segment_facts : (i : ℕ) → segment_ok_at unit total g i ≡ true → SegmentFacts unit total g i
  unfolding segment_ok_at segment_ok row_ok line_ok
  segment_facts i both =
      let h = and_first _ _ both in
      let r = all_of_head _ _ h in
      let r1 = all_of_tail _ _ r in
      let r2 = all_of_tail _ _ r1 in
      let r3 = all_of_tail _ _ r2 in
      record {
        early = all_of_head _ _ r;
        late = all_of_head _ _ r1;
        rate_low = leb-true _ _ (all_of_head _ _ r2);
        rate_high = leb-true _ _ (all_of_head _ _ r3);
        line = all_of_head _ _ (all_of_tail _ _ (all_of_tail _ _ h));
      }

  before_next : (i : ℕ) → row_before g (i + 1) ≡ some (row_of g i)
  unfolding row_before
  before_next i = rw add-one

  grown : (i : ℕ) → follows (some (row_of g i)) (row_of g (i + 1)) ≡ true → Grows g i
  unfolding follows
  grown i w = record { counts = ltb-true _ _ (all_of_head _ _ w); times = all_of_head _ _ (all_of_tail _ _ w) }

  grow_facts : (i : ℕ) → segment_ok_at unit total g (i + 1) ≡ true → Grows g i
  unfolding segment_ok_at segment_ok
  grow_facts i h = grown i (rw (before_next i) at (all_of_head _ _ (all_of_tail _ _ (and_first _ _ h))))

  -- the last row's count
  last_fact : (n i : ℕ) → segments_in g ≡ n → n ≡ i + 1 → segment_ok_at unit total g i ≡ true → (row_of g i).count ≤ total
  unfolding segment_ok_at within_total
  last_fact n i e f h =
      let none_next : has_next g.counts i ≡ false = le-ltb (i + 1) (segments_in g) (omega arith) in
      let within : within_total total g.counts i ≡ true = and_second (segment_ok unit (row_before g i) (row_of g i) (segment_end total g.counts i)) _ h in
      leb-true (row_of g i).count total (rw none_next at within)

  follows_next : ((i : ℕ) → i + 1 < segments_in g → Grows g i) → (i : ℕ) → i < segments_in g → follows (row_before g i) (row_of g i) ≡ true
  unfolding row_before follows all_of
  follows_next f zero b = refl
  follows_next f (suc i) b =
      let w = f i (omega arith) in
      rw add-one at (and_both (lt-ltb _ _ w.counts) (and_both w.times refl))

  pub segments_facts : segments_ok unit total g ≡ true → SegmentsFacts unit total g
  unfolding segments_fault segment_lengths_ok
  segments_facts h =
      let w = no_fault _ _ _ h in
      let h0 = w.0 in
      let h1 = all_of_tail _ _ h0 in
      let h2 = all_of_tail _ _ h1 in
      let h3 = all_of_tail _ _ h2 in
      let some-rows = leb-true 1 (segments_in g) (all_of_head _ _ h2) in
      let row : (i : ℕ) → i < segments_in g → segment_ok_at unit total g i ≡ true = λ i b. first_not_missing (segment_ok_at unit total g) (segments_in g) i w.1 b in
      record {
        times_length = eqb-true _ _ (all_of_head _ _ h0);
        rates_length = eqb-true _ _ (all_of_head _ _ h1);
        some = some-rows;
        few = leb-true _ _ (all_of_head _ _ h3);
        last = last_fact (segments_in g) (segments_in g - 1) refl (omega arith) (row (segments_in g - 1) (omega arith));
        each = λ i b. segment_facts i (row i b);
        grow = λ i b. grow_facts i (row (i + 1) b);
      }

  pub segments_accepted : SegmentsFacts unit total g → segments_ok unit total g ≡ true
  unfolding segments_fault segment_lengths_ok segment_ok_at segment_ok row_ok line_ok within_total all_of
  segments_accepted f =
      rw (
        eq-eqb _ _ f.times_length,
        eq-eqb _ _ f.rates_length,
        le-leb _ _ f.some,
        le-leb _ _ f.few,
        first_not_none (segment_ok_at unit total g) (segments_in g) row,
      )
    where
      within : (i : ℕ) → i < segments_in g → (has_next g.counts i || leb (row_of g i).count total) ≡ true
      within i b =
          by_test (has_next g.counts i)
          (λ t. or_first _ t)
          (λ n. let e : i ≡ segments_in g - 1 = omega (arith, ltb-false (i + 1) (segments_in g) n) in
          or_second (has_next g.counts i) (rw (← e) at (le-leb (row_of g (segments_in g - 1)).count total f.last)))

      row : (i : ℕ) → i < segments_in g → segment_ok_at unit total g i ≡ true
      row i b =
          let s = f.each i b in
          and_both
          (and_both
          (and_both s.early (and_both s.late (and_both (le-leb _ _ s.rate_low) (and_both (le-leb _ _ s.rate_high) refl))))
          (and_both (follows_next f.grow i b) (and_both s.line refl)))
          (within i b)
