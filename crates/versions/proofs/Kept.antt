-- What the hypotheses say, row by row.
use Prim.Native.Nat.{ℕ, ◌+◌, ◌≤◌, ◌<◌}
use native.Mathlib.Omega.{arith}
use native.Mathlib.Nat.{le_trans}
use mathlib.Core.Path.{◌≡◌, ◌∙◌}
use mathlib.Core.Bool.{false}
use lib.IntN.{pos}
use lib.ListN.{length, take, length-take}
use lib.Seq.{get_or-take}
use borrow.Author.Tests.{ltb-true, lt-ltb}
use Rattle.rules.specs.Facts.{PartitionsFacts, SegmentsFacts}
use Rattle.rules.specs.Partitions.{partitions_in, end_of, total_of}
use Rattle.rules.specs.Layout.{product_of, unit_of}
use Rattle.rules.specs.Segments.{segments_in, row_of, overtakes, steps_back_at}
use Rattle.rules.proofs.Accepted.{layout_facts, partitions_facts, segments_facts}
use Rattle.versions.specs.Versions.{Table, Accepted, last_in, Hypothesis, Says}
use Rattle.versions.specs.Versions.{same-n, same_moduli, same_offsets, same-delimiter, kept-starts, kept-ends, last_end, kept-counts, kept-times, kept-rates, further-counts, no_step_back}
use Rattle.versions.specs.Seam.{seam_of, SaysAtSeam}
use Rattle.versions.proofs.Lists.{begins_longer, begins_at, all_after}
use Rattle.versions.proofs.Layouts.{OneLayout, unit_positive}
use Rattle.versions.proofs.Partitions.{KeptPartitions}
use Rattle.versions.proofs.Segments.{KeptSegments}

module _ (older newer : Table) where
  pub layout_from : Says older newer same-n → Says older newer same_moduli → Says older newer same_offsets → Says older newer same-delimiter
      → OneLayout older.layout newer.layout
  layout_from n moduli offsets delimiter = record { moduli = rw n moduli; offsets = rw n offsets; delimiter = delimiter }

module _ (older newer : Table) (was : Accepted older) (is : Accepted newer) where
  pub old_partitions : PartitionsFacts (product_of older.layout) older.partitions
  old_partitions = partitions_facts _ _ was.partitions

  pub new_partitions : PartitionsFacts (product_of newer.layout) newer.partitions
  new_partitions = partitions_facts _ _ is.partitions

  pub old_segments : SegmentsFacts (unit_of older.layout) (total_of older.partitions) older.segments
  old_segments = segments_facts _ _ _ was.segments

  pub new_segments : SegmentsFacts (unit_of newer.layout) (total_of newer.partitions) newer.segments
  new_segments = segments_facts _ _ _ is.segments

  -- the older's ends before its last
  pub inner_length : length (take (last_in older) older.partitions.ends) ≡ last_in older
  inner_length = length-take (last_in older) older.partitions.ends ∙ omega (arith, old_partitions.one_length)

  inner_end : Says older newer kept-ends → (i : ℕ) → i + 1 < partitions_in older.partitions → end_of newer.partitions i ≡ end_of older.partitions i
  inner_end kept i b =
      let ends = older.partitions.ends in
      begins_at (take (last_in older) ends) newer.partitions.ends i 0 kept (omega (arith, inner_length)) ∙ get_or-take (last_in older) ends i 0 (omega arith)

  pub partitions_from : Says older newer kept-starts → Says older newer kept-ends → Says older newer last_end → KeptPartitions older.partitions newer.partitions
  partitions_from starts ends last =
      record {
        some = old_partitions.some;
        more = begins_longer older.partitions.starts newer.partitions.starts starts;
        starts = λ i b. begins_at older.partitions.starts newer.partitions.starts i 0 starts b;
        ends = inner_end ends;
        last_end = omega (arith, last);
        older_rows = λ i b. (old_partitions.each i b).ordered;
        newer_rows = λ i b. (new_partitions.each i b).ordered;
      }

  pub segment_from : Says older newer kept-counts → Says older newer kept-times → Says older newer kept-rates
      → (i : ℕ) → i < segments_in older.segments → row_of newer.segments i ≡ row_of older.segments i
  segment_from counts times rates i b =
      rw (
        begins_at older.segments.counts newer.segments.counts i 0 counts b,
        begins_at older.segments.times newer.segments.times i (pos 0) times (rw old_segments.times_length b),
        begins_at older.segments.rates newer.segments.rates i 0 rates (rw old_segments.rates_length b),
      )

  pub further_from : Says older newer further-counts → (i : ℕ) → segments_in older.segments ≤ i → i < segments_in newer.segments
      → total_of older.partitions < (row_of newer.segments i).count
  further_from above i b c = let here = all_after _ newer.segments.counts _ i above b c in omega (arith, ltb-true)

module _ (older newer : Table) (was : Accepted older) (is : Accepted newer) (says : (h : Hypothesis) → SaysAtSeam older newer h) where
  pub one_layout : OneLayout older.layout newer.layout
  one_layout = layout_from older newer (says same-n) (says same_moduli) (says same_offsets) (says same-delimiter)

  pub kept_partitions : KeptPartitions older.partitions newer.partitions
  kept_partitions = partitions_from older newer was is (says kept-starts) (says kept-ends) (says last_end)

  pub unit : 1 ≤ unit_of newer.layout
  unit = unit_positive newer.layout (layout_facts newer.layout is.layout)

  forward : (i : ℕ) → i + 1 ≡ segments_in older.segments → i + 1 < segments_in newer.segments
      → overtakes (unit_of newer.layout) (row_of newer.segments i) (row_of newer.segments (i + 1)) ≡ false
  unfolding steps_back_at
  forward i e b =
      let k : seam_of older ≡ i = omega arith in
      rw (k, lt-ltb (i + 1) (segments_in newer.segments) b) at (says no_step_back)

  pub kept_segments : KeptSegments (unit_of newer.layout) (total_of older.partitions) older.segments newer.segments
  kept_segments =
      let old = old_segments older newer was is in
      let new = new_segments older newer was is in
      record {
        some = old.some;
        more = begins_longer older.segments.counts newer.segments.counts (says kept-counts);
        older_times = old.times_length;
        newer_times = new.times_length;
        rows = segment_from older newer was is (says kept-counts) (says kept-times) (says kept-rates);
        further = further_from older newer was is (says further-counts);
        grow = λ i b. (new.grow i b).times;
        positive = λ i b. le_trans unit (new.each i b).rate_low;
        forward = forward;
      }
