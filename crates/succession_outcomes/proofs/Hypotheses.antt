-- A condition fails in no row exactly where its hypotheses hold.
use Prim.Native.Nat.{ℕ, suc, ◌+◌, ◌-◌, ◌≤◌, ◌<◌}
use native.Mathlib.Omega.{arith}
use mathlib.Core.Path.{◌≡◌, refl, sym, ap, ◌∙◌}
use mathlib.Core.Bool.{Bool, true, false}
use mathlib.Core.List.{List, [], ◌∷◌}
use mathlib.Core.Option.{Option, none, some}
use lib.Dec.{eqb, ltb}
use lib.IntN.{pos}
use lib.ListN.{length, take, drop, get_or, length-drop}
use lib.Seq.{ext_get_or, length-take-le, get_or-take, get_or-drop}
use borrow.Author.Tests.{eqb-true, eq-eqb, ltb-true, ltb-false, lt-ltb, le-ltb, not-true}
use Rattle.base.specs.Scans.{all_of, all}
use Rattle.base.proofs.Tests.{by_test, and_both, or_first, or_second, neither_first, all_of_head, all_of_tail}
use Rattle.base.proofs.Lists.{all_cons}
use Rattle.base.proofs.Scans.{first_not_none, first_not_missing}
use Rattle.rules.specs.Answer.{fails_at}
use Rattle.rules.specs.Partitions.{partitions_in, total_of}
use Rattle.rules.specs.Segments.{segments_in, row_of as segment}
use Rattle.versions.specs.Versions.{Table, Accepted, Begins, last_in, Hypothesis}
use Rattle.versions.specs.Versions.{same-n, same_moduli, same_offsets, same-delimiter, kept-starts, kept-ends, last_end, kept-counts, kept-times, kept-rates, further-counts, no_step_back}
use Rattle.versions.specs.Seam.{seam_of, SaysAtSeam}
use Rattle.versions.proofs.Equal.{same_true, same_is}
use Rattle.versions.proofs.Lists.{begins_longer}
use Rattle.versions.proofs.Partitions.{KeptPartitions}
use Rattle.versions.proofs.Kept.{old_partitions, new_partitions, old_segments, new_segments, inner_length, partitions_from, segment_from, further_from}
use Rattle.succession_rules.specs.declared.Condition.{Condition}
use Rattle.succession_rules.specs.declared.Condition.TheVariants as Asked
use Rattle.succession_rules.specs.Kept.{same_layout, partition_lost, segment_lost, further_above, further_low, seam_back}
use Rattle.succession_rules.specs.Rows.{PartitionRow, SegmentRow}
use Rattle.succession_rules.proofs.Rows.{partition_row, row_partition, segment_row, row_segment, partitions_fit, segments_fit}
use Rattle.succession_outcomes.specs.Succession.{Holds}
use Rattle.succession_outcomes.proofs.Ladder.{row_of}

-- a rule at one place fails nowhere where it holds
pub nowhere : (i : ℕ) (t : Bool) → fails_at i t ≡ none → t ≡ true
unfolding fails_at
nowhere i true h = refl
nowhere i false h = absurd (not_none h)
  where
    not_none : {j : ℕ} → ◌≡◌ {A = Option ℕ} (some j) none → ⊥
    not_none q = let z : ◌≡◌ {A = ℕ} 0 1 = cc in omega arith

pub holds_nowhere : (i : ℕ) (t : Bool) → t ≡ true → fails_at i t ≡ none
unfolding fails_at
holds_nowhere i t h = rw h

-- a list that has the other's elements at its front begins with it
begins_from : {A : Type 0} (a b : List A) (d : A) → length a ≤ length b → ((i : ℕ) → i < length a → get_or b i d ≡ get_or a i d) → Begins a b
begins_from a b d h f =
    let n : length (take (length a) b) ≡ length a = length-take-le (length a) b h in
    ext_get_or d (take (length a) b) a n (λ i l. get_or-take (length a) b i d (omega arith) ∙ f i (omega arith))

-- what holds of each element after the first n
all_of_lem : (p : ℕ → Bool) (s : List ℕ) → ((i : ℕ) → i < length s → p (get_or s i 0) ≡ true) → all p s ≡ true
unfolding all
all_of_lem p [] f = refl
all_of_lem p (x ∷ s) f = all_cons p x s (f 0 (omega arith)) (all_of_lem p s (λ i l. f (suc i) (omega arith)))

all_beyond : (p : ℕ → Bool) (s : List ℕ) (n : ℕ) → ((i : ℕ) → n ≤ i → i < length s → p (get_or s i 0) ≡ true) → all p (drop n s) ≡ true
all_beyond p s n f =
    all_of_lem p (drop n s) (λ i l. let b : i < length s - n = rw (length-drop n s) at l in rw (get_or-drop n s i 0) (f (n + i) (omega arith) (omega arith)))

module _ (older newer : Table) where
  pub layout_holds : row_of older newer Asked.Layout ≡ none → Holds older newer Asked.Layout
  unfolding same_layout
  layout_holds h =
      let t = nowhere 0 _ h in
      let t1 = all_of_tail _ _ t in
      let t2 = all_of_tail _ _ t1 in
      let t3 = all_of_tail _ _ t2 in (
        eqb-true _ _ (all_of_head _ _ t),
        same_true eqb eqb-true _ _ (all_of_head _ _ t1),
        same_true eqb eqb-true _ _ (all_of_head _ _ t2),
        eqb-true _ _ (all_of_head _ _ t3),
      )

  holds_layout : Holds older newer Asked.Layout → row_of older newer Asked.Layout ≡ none
  unfolding same_layout all_of
  holds_layout w =
      holds_nowhere 0 _
      (and_both (eq-eqb _ _ w.0)
      (and_both (same_is eqb (λ a. eq-eqb a a refl) _ _ w.1)
      (and_both (same_is eqb (λ a. eq-eqb a a refl) _ _ w.2) (and_both (eq-eqb _ _ w.3) refl))))

  pub above_at : (i : ℕ) → segments_in older.segments ≤ i → further_above (total_of older.partitions) (segments_in older.segments) newer.segments.counts i ≡ true
      → total_of older.partitions < (segment newer.segments i).count
  unfolding further_above
  above_at i b t = ltb-true _ _ (rw (le-ltb i (segments_in older.segments) b) at t)

  pub at_above : (i : ℕ) → (segments_in older.segments ≤ i → total_of older.partitions < (segment newer.segments i).count)
      → further_above (total_of older.partitions) (segments_in older.segments) newer.segments.counts i ≡ true
  unfolding further_above
  at_above i f =
      by_test (ltb i (segments_in older.segments))
      (λ t. or_first _ t)
      (λ n. or_second (ltb i (segments_in older.segments)) (lt-ltb _ _ (f (beyond n))))
    where
      beyond : ltb i (segments_in older.segments) ≡ false → segments_in older.segments ≤ i
      beyond n = ltb-false _ _ n

  -- a further row that is not above the total is one
  pub further_within : (i : ℕ) → further_above (total_of older.partitions) (segments_in older.segments) newer.segments.counts i ≡ false → segments_in older.segments ≤ i
  unfolding further_above
  further_within i f = ltb-false i (segments_in older.segments) (neither_first _ _ f)

  further_holds : row_of older newer Asked.Further ≡ none → Holds older newer Asked.Further
  unfolding further_low
  further_holds h =
      all_beyond _ newer.segments.counts (segments_in older.segments) (λ i b l. lt-ltb _ _ (above_at i b (first_not_missing _ (segments_in newer.segments) i h l)))

  seam_holds : row_of older newer Asked.Seam ≡ none → Holds older newer Asked.Seam
  unfolding seam_back
  seam_holds h = not-true _ (nowhere (seam_of older) _ h)

  holds_seam : Holds older newer Asked.Seam → row_of older newer Asked.Seam ≡ none
  unfolding seam_back
  holds_seam w = holds_nowhere (seam_of older) _ (rw w)

module _ (older newer : Table) (was : Accepted older) (is : Accepted newer) where
  -- the rows of kept partitions
  pub rows_partitions : row_of older newer Asked.Partition ≡ none → KeptPartitions older.partitions newer.partitions
  unfolding partition_lost
  rows_partitions h =
      let row : (i : ℕ) → i < partitions_in older.partitions → PartitionRow older.partitions newer.partitions i
      = λ i b. partition_row older.partitions newer.partitions i (first_not_missing _ (partitions_in older.partitions) i h b) in
      let old = old_partitions older newer was is in
      record {
        some = old.some;
        more = partitions_fit older.partitions newer.partitions h;
        starts = λ i b. (row i b).start;
        ends = λ i b. (row i (omega arith)).inner b;
        last_end = (row (last_in older) (omega (arith, old.some))).last (omega arith);
        older_rows = λ i b. (old.each i b).ordered;
        newer_rows = λ i b. ((new_partitions older newer was is).each i b).ordered;
      }

  partition_holds : row_of older newer Asked.Partition ≡ none → Holds older newer Asked.Partition
  partition_holds h =
      let w = rows_partitions h in
      let p = older.partitions in
      let n = inner_length older newer was is in
      let m = (new_partitions older newer was is).one_length in (
        begins_from p.starts newer.partitions.starts 0 w.more w.starts,
        begins_from (take (last_in older) p.ends) newer.partitions.ends 0 (omega (arith, w.more))
            (λ i b. w.ends i (omega arith) ∙ sym (get_or-take (last_in older) p.ends i 0 (omega arith))),
        w.last_end,
      )

  kept_row : KeptPartitions older.partitions newer.partitions → (i : ℕ) → i < partitions_in older.partitions → PartitionRow older.partitions newer.partitions i
  kept_row w i b =
      record {
        there = omega (arith, w.more);
        start = w.starts i b;
        inner = w.ends i;
        last = λ l. let e : i ≡ last_in older = omega arith in rw e w.last_end;
      }

  holds_partition : Holds older newer Asked.Partition → row_of older newer Asked.Partition ≡ none
  unfolding partition_lost
  holds_partition w =
      let k = partitions_from older newer was is w.0 w.1 w.2 in
      first_not_none _ (partitions_in older.partitions) (λ i b. row_partition older.partitions newer.partitions i (kept_row k i b))

  segment_holds : row_of older newer Asked.Segment ≡ none → Holds older newer Asked.Segment
  unfolding segment_lost
  segment_holds h =
      let g = older.segments in
      let row : (i : ℕ) → i < segments_in g → SegmentRow g newer.segments i
      = λ i b. segment_row g newer.segments i (first_not_missing _ (segments_in g) i h b) in
      let old = old_segments older newer was is in
      let new = new_segments older newer was is in
      let more = segments_fit g newer.segments h in (
        begins_from g.counts newer.segments.counts 0 more (λ i b. (row i b).count),
        begins_from g.times newer.segments.times (pos 0) (omega (arith, old.times_length, new.times_length)) (λ i b. (row i (omega (arith, old.times_length))).time),
        begins_from g.rates newer.segments.rates 0 (omega (arith, old.rates_length, new.rates_length)) (λ i b. (row i (omega (arith, old.rates_length))).rate),
      )

  holds_segment : Holds older newer Asked.Segment → row_of older newer Asked.Segment ≡ none
  unfolding segment_lost
  holds_segment w =
      let g = older.segments in
      let more = begins_longer g.counts newer.segments.counts w.0 in
      let row = segment_from older newer was is w.0 w.1 w.2 in
      first_not_none _ (segments_in g)
      (λ i b. row_segment g newer.segments i
      (record {
        there = omega arith;
        count = ap (λ s. s.count) (row i b);
        time = ap (λ s. s.time) (row i b);
        rate = ap (λ s. s.rate) (row i b);
      }))

  holds_further : Holds older newer Asked.Further → row_of older newer Asked.Further ≡ none
  unfolding further_low
  holds_further w =
      first_not_none _ (segments_in newer.segments) (λ i b. at_above older newer i (λ l. further_from older newer was is w i l b))

  pub none_holds : (c : Condition) → row_of older newer c ≡ none → Holds older newer c
  none_holds Asked.Layout h = layout_holds older newer h
  none_holds Asked.Partition h = partition_holds h
  none_holds Asked.Segment h = segment_holds h
  none_holds Asked.Further h = further_holds older newer h
  none_holds Asked.Seam h = seam_holds older newer h

  pub holds_none : (c : Condition) → Holds older newer c → row_of older newer c ≡ none
  holds_none Asked.Layout h = holds_layout older newer h
  holds_none Asked.Partition h = holds_partition h
  holds_none Asked.Segment h = holds_segment h
  holds_none Asked.Further h = holds_further h
  holds_none Asked.Seam h = holds_seam older newer h

-- all that is asked, by condition and by hypothesis
module _ (older newer : Table) where
  pub says_all : ((c : Condition) → Holds older newer c) → (h : Hypothesis) → SaysAtSeam older newer h
  says_all w same-n = (w Asked.Layout).0
  says_all w same_moduli = (w Asked.Layout).1
  says_all w same_offsets = (w Asked.Layout).2
  says_all w same-delimiter = (w Asked.Layout).3
  says_all w kept-starts = (w Asked.Partition).0
  says_all w kept-ends = (w Asked.Partition).1
  says_all w last_end = (w Asked.Partition).2
  says_all w kept-counts = (w Asked.Segment).0
  says_all w kept-times = (w Asked.Segment).1
  says_all w kept-rates = (w Asked.Segment).2
  says_all w further-counts = w Asked.Further
  says_all w no_step_back = w Asked.Seam

  pub all_holds : ((h : Hypothesis) → SaysAtSeam older newer h) → (c : Condition) → Holds older newer c
  all_holds s Asked.Layout = (s same-n, s same_moduli, s same_offsets, s same-delimiter)
  all_holds s Asked.Partition = (s kept-starts, s kept-ends, s last_end)
  all_holds s Asked.Segment = (s kept-counts, s kept-times, s kept-rates)
  all_holds s Asked.Further = s further-counts
  all_holds s Asked.Seam = s no_step_back
