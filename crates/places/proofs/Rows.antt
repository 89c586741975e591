-- The fault of a table is found at its first row that breaks a rule.
use Prim.Native.Nat.{ℕ, zero, suc, ◌+◌, ◌≤◌, ◌<◌}
use mathlib.Core.Path.{◌≡◌, refl, sym, subst}
use mathlib.Core.Bool.{Bool, true, false, ◌&&◌, cond, true≢false}
use mathlib.Core.List.{List, [], ◌∷◌}
use mathlib.Core.Logic.{◌↔◌}
use mathlib.Core.Option.{some, some-injective}
use borrow.Author.Tests.{le-ltb, le-leb, eq-eqb, ltb-true, ltb-false, leb-true, leb-false, eqb-true}
use native.Mathlib.Omega.{arith}
use native.Mathlib.Numerals.{add-one}
use native.Mathlib.Nat.{lt_trans, not-le_of_lt}
use Rattle.base.specs.Scans.{all_of, first_not}
use Rattle.base.proofs.Tests.{by_test, not_both, and_both, and_first, and_second, or_first, all_of_head, all_of_tail}
use Rattle.base.proofs.Scans.{first_not_is, first_not_found}
use Rattle.rules.specs.Partitions.{Partitions, partitions_in, partition_ok, partition_lengths_ok, partitions_fault}
use Rattle.rules.specs.Segments.{
  Segments,
  segments_in,
  row_of,
  has_next,
  segment_end,
  row_before,
  follows,
  row_ok,
  line_ok,
  segment_ok,
  within_total,
  segment_ok_at,
  segment_lengths_ok,
  segments_fault,
}
use Rattle.rules.specs.Facts.{Grows}
use Rattle.rules.proofs.Accepted.{partition_facts}
use Rattle.places.specs.Rows.{
  FirstRow,
  FaultAt,
  of_lengths,
  of_row,
  PartitionMeets,
  PartitionBreaks,
  start_at_end,
  end_at_P,
  sum_passes,
  PartitionLengths,
  PartitionsPlace,
  SegmentMeets,
  SegmentBreaks,
  too_early,
  too_late,
  rate_low,
  rate_high,
  count_not_above,
  time_not_after,
  line_too_late,
  last_above_total,
  SegmentLengths,
  SegmentsPlace,
}

-- of a list of tests of which one fails: the first does, or one of the rest
first_or_rest : {A : Type 0} (t : Bool) (ts : List Bool) → (t ≡ false → A) → (all_of ts ≡ false → A) → all_of (t ∷ ts) ≡ false → A
unfolding all_of
first_or_rest true ts f g h = g h
first_or_rest false ts f g h = f refl

none_fails : {A : Type 0} → all_of [] ≡ false → A
unfolding all_of
none_fails h = absurd (true≢false h)

-- of two tests of which the second holds, the first fails
and_first_out : (a b : Bool) → b ≡ true → (a && b) ≡ false → a ≡ false
and_first_out true b t h = absurd (not_both t h)
and_first_out false b t h = refl

-- a table by two tests: of its lengths, and of each row, which holds where the row meets its rules and fails where it breaks one
module _
    (Lengths : Type 0) (shortest : ℕ) (Meets Breaks : ℕ → Type 0) (lengths_ok : Bool) (ok : ℕ → Bool) (n : ℕ)
    (good : lengths_ok ≡ true → Lengths) (shown : Lengths → lengths_ok ≡ true)
    (meets : (j : ℕ) → j < n → ok j ≡ true → Meets j) (breaks : (j : ℕ) → j < n → ok j ≡ false → Breaks j)
    (contrary : (j : ℕ) → Breaks j → Meets j → ⊥) (i : ℕ)
  where
    met : (j : ℕ) → j < n → Meets j → ok j ≡ true
    met j b w = by_test (ok j) (λ t. t) (λ f. absurd (contrary j (breaks j b f) w))

    broken : (j : ℕ) → j < n → Breaks j → ok j ≡ false
    broken j b w = by_test (ok j) (λ t. absurd (contrary j w (meets j b t))) (λ f. f)

    found_row : first_not ok n ≡ some i → FirstRow Meets Breaks n i
    found_row e =
        let w = first_not_found ok n i e in
        record { below = w.below; before = λ j h. meets j (lt_trans h w.below) (w.before j h); here = breaks i w.below w.fails_here }

    row_found : FirstRow Meets Breaks n i → first_not ok n ≡ some i
    row_found w =
        first_not_is ok n i
        (record { below = w.below; fails_here = broken i w.below w.here; before = λ j h. met j (lt_trans h w.below) (w.before j h) })

    found_fault : cond lengths_ok (first_not ok n) (some shortest) ≡ some i → FaultAt Lengths shortest Meets Breaks n i
    found_fault e =
        by_test lengths_ok
        (λ t. of_row (good t) (found_row (rw t at e)))
        (λ f. of_lengths (λ w. not_both (shown w) f) (sym (some-injective shortest i (rw f at e))))

    fault_found : FaultAt Lengths shortest Meets Breaks n i → cond lengths_ok (first_not ok n) (some shortest) ≡ some i
    fault_found (of_lengths w e) = rw (by_test lengths_ok (λ t. absurd (w (good t))) (λ f. f), e)
    fault_found (of_row w r) = rw (shown w, row_found r)

    place_is : cond lengths_ok (first_not ok n) (some shortest) ≡ some i ↔ FaultAt Lengths shortest Meets Breaks n i
    place_is = (found_fault, fault_found)

module _ (P : ℕ) (p : Partitions) where
  partition_meets : (i : ℕ) → i < partitions_in p → partition_ok P p i ≡ true → PartitionMeets P p i
  unfolding partition_ok
  partition_meets i _ h = record { own = partition_facts P p i h; sum = leb-true _ _ (all_of_head _ _ (all_of_tail _ _ (all_of_tail _ _ h))) }

  partition_breaks : (i : ℕ) → i < partitions_in p → partition_ok P p i ≡ false → PartitionBreaks P p i
  unfolding partition_ok
  partition_breaks i _ =
      first_or_rest _ _ (λ f. start_at_end (ltb-false _ _ f))
      (first_or_rest _ _ (λ f. end_at_P (ltb-false _ _ f))
      (first_or_rest _ _ (λ f. sum_passes (leb-false _ _ f)) none_fails))

  partition_contrary : (i : ℕ) → PartitionBreaks P p i → PartitionMeets P p i → ⊥
  partition_contrary i (start_at_end h) w = not-le_of_lt w.own.ordered h
  partition_contrary i (end_at_P h) w = not-le_of_lt w.own.in-range h
  partition_contrary i (sum_passes h) w = not-le_of_lt h w.sum

  partition_lengths : partition_lengths_ok p ≡ true → PartitionLengths p
  unfolding partition_lengths_ok
  partition_lengths h =
      let h1 = all_of_tail _ _ h in
      record { one_length = eqb-true _ _ (all_of_head _ _ h); some = leb-true _ _ (all_of_head _ _ h1); few = leb-true _ _ (all_of_head _ _ (all_of_tail _ _ h1)) }

  partition_lengths_shown : PartitionLengths p → partition_lengths_ok p ≡ true
  unfolding partition_lengths_ok all_of
  partition_lengths_shown w = and_both (eq-eqb _ _ w.one_length) (and_both (le-leb _ _ w.some) (and_both (le-leb _ _ w.few) refl))

pub partitions_place : PartitionsPlace
unfolding partitions_fault
partitions_place P p =
    place_is _ _ _ _ _ (partition_ok P p) _ (partition_lengths P p) (partition_lengths_shown P p) (partition_meets P p) (partition_breaks P p)
    (partition_contrary P p)

module _ (unit total : ℕ) (g : Segments) where
  -- the last row's count
  last_meets : (i : ℕ) → within_total total g.counts i ≡ true → i + 1 ≡ segments_in g → (row_of g i).count ≤ total
  unfolding within_total
  last_meets i h e = leb-true _ _ (rw (le-ltb (i + 1) (segments_in g) (omega arith)) at h)

  last_breaks : (i : ℕ) → i < segments_in g → within_total total g.counts i ≡ false → SegmentBreaks unit total g i
  unfolding within_total
  last_breaks i b h =
      by_test (has_next g.counts i)
      (λ t. absurd (not_both (or_first _ t) h))
      (λ f. last_above_total (ended (ltb-false (i + 1) (segments_in g) f)) (leb-false _ _ (rw f at h)))
    where
      ended : segments_in g ≤ i + 1 → i + 1 ≡ segments_in g
      ended e = omega arith

  -- against the row before
  grown : (i : ℕ) → follows (some (row_of g i)) (row_of g (i + 1)) ≡ true → Grows g i
  unfolding follows
  grown i h = record { counts = ltb-true _ _ (all_of_head _ _ h); times = all_of_head _ _ (all_of_tail _ _ h) }

  grows_from : (i : ℕ) → follows (row_before g i) (row_of g i) ≡ true → (j : ℕ) → i ≡ j + 1 → Grows g j
  unfolding row_before
  grows_from zero h j e = absurd (omega arith)
  grows_from (suc i) h j e = let same : i ≡ j = omega arith in subst (Grows g) same (grown i (rw add-one h))

  not_grown : (i : ℕ) → follows (row_before g i) (row_of g i) ≡ false → SegmentBreaks unit total g i
  unfolding row_before follows
  not_grown zero h = absurd (true≢false h)
  not_grown (suc i) h =
      first_or_rest _ _ (λ f. count_not_above i (omega arith) (ltb-false _ _ f))
      (first_or_rest _ _ (λ f. time_not_after i (omega arith) f) none_fails)
      h

  segment_meets : (i : ℕ) → i < segments_in g → segment_ok_at unit total g i ≡ true → SegmentMeets unit total g i
  unfolding segment_ok_at segment_ok row_ok line_ok
  segment_meets i _ h =
      let h0 = and_first _ _ h in
      let h1 = all_of_tail _ _ h0 in
      let r = all_of_head _ _ h0 in
      let r1 = all_of_tail _ _ r in
      let r2 = all_of_tail _ _ r1 in
      record {
        own =
            record {
              early = all_of_head _ _ r;
              late = all_of_head _ _ r1;
              rate_low = leb-true _ _ (all_of_head _ _ r2);
              rate_high = leb-true _ _ (all_of_head _ _ (all_of_tail _ _ r2));
              line = all_of_head _ _ (all_of_tail _ _ h1);
            };
        grows = grows_from i (all_of_head _ _ h1);
        last = last_meets i (and_second (segment_ok unit (row_before g i) (row_of g i) (segment_end total g.counts i)) _ h);
      }

  row_breaks : (i : ℕ) → row_ok unit (row_of g i) ≡ false → SegmentBreaks unit total g i
  unfolding row_ok
  row_breaks i =
      first_or_rest _ _ too_early
      (first_or_rest _ _ too_late
      (first_or_rest _ _ (λ f. rate_low (leb-false _ _ f))
      (first_or_rest _ _ (λ f. rate_high (leb-false _ _ f)) none_fails)))

  segment_breaks : (i : ℕ) → i < segments_in g → segment_ok_at unit total g i ≡ false → SegmentBreaks unit total g i
  unfolding segment_ok_at segment_ok line_ok
  segment_breaks i b h =
      by_test (within_total total g.counts i)
      (λ t. first_or_rest _ _ (row_breaks i) (first_or_rest _ _ (not_grown i) (first_or_rest _ _ line_too_late none_fails)) (and_first_out _ _ t h))
      (λ f. last_breaks i b f)

  segment_contrary : (i : ℕ) → SegmentBreaks unit total g i → SegmentMeets unit total g i → ⊥
  segment_contrary i (too_early f) w = not_both w.own.early f
  segment_contrary i (too_late f) w = not_both w.own.late f
  segment_contrary i (rate_low h) w = not-le_of_lt h w.own.rate_low
  segment_contrary i (rate_high h) w = not-le_of_lt h w.own.rate_high
  segment_contrary i (count_not_above j e h) w = not-le_of_lt (w.grows j e).counts (rw e at h)
  segment_contrary i (time_not_after j e f) w = not_both (w.grows j e).times (rw e at f)
  segment_contrary i (line_too_late f) w = not_both w.own.line f
  segment_contrary i (last_above_total e h) w = not-le_of_lt h (w.last e)

  segment_lengths : segment_lengths_ok g ≡ true → SegmentLengths g
  unfolding segment_lengths_ok
  segment_lengths h =
      let h1 = all_of_tail _ _ h in
      let h2 = all_of_tail _ _ h1 in
      record {
        times_length = eqb-true _ _ (all_of_head _ _ h);
        rates_length = eqb-true _ _ (all_of_head _ _ h1);
        some = leb-true _ _ (all_of_head _ _ h2);
        few = leb-true _ _ (all_of_head _ _ (all_of_tail _ _ h2));
      }

  segment_lengths_shown : SegmentLengths g → segment_lengths_ok g ≡ true
  unfolding segment_lengths_ok all_of
  segment_lengths_shown w =
      and_both (eq-eqb _ _ w.times_length)
      (and_both (eq-eqb _ _ w.rates_length) (and_both (le-leb _ _ w.some) (and_both (le-leb _ _ w.few) refl)))

pub segments_place : SegmentsPlace
unfolding segments_fault
segments_place unit total g =
    place_is _ _ _ _ _ (segment_ok_at unit total g) _ (segment_lengths unit total g) (segment_lengths_shown unit total g)
    (segment_meets unit total g) (segment_breaks unit total g) (segment_contrary unit total g)
