-- Request 3, of tables: "Refusals 2 and 3 give the first row, from 0, that breaks a rule", "Wrong list lengths come first and give the
-- shortest length". The rules row by row, each as its sentence, and the row at which a table's fault is found. `Calls` says the same of the calls.
use Rattle.std.specs.Prelude.{ℕ, ◌+◌, ◌≤◌, ◌<◌, min, ◌≡◌, false, ◌↔◌, length}
use Rattle.std.proofs.Math.Option.{some}
use Rattle.std.specs.Int.Signed.{le_z, lt_z}
use Rattle.rules.specs.Limits.{most_partitions, largest_total, most_segments, earliest_time, latest_time, largest_rate}
use Rattle.rules.specs.Partitions.{Partitions, partitions_in, start_of, end_of, lengths_before, partitions_fault}
use Rattle.rules.specs.Segments.{Segments, segments_in, row_of, line_at, segment_end, segments_fault}
use Rattle.rules.specs.Facts.{PartitionFacts, SegmentFacts, Grows}

-- row i of n rows breaks a rule, and every row before it meets its rules
pub record FirstRow (Meets Breaks : ℕ → Type 0) (n i : ℕ) : Type 0 where
  pub below : i < n
  pub before : (j : ℕ) → j < i → Meets j
  pub here : Breaks i

-- Where a table's fault is found: the lists' lengths are wrong, and i is the shortest; or they are good, and i is the first row that breaks a rule.
pub data FaultAt (Lengths : Type 0) (shortest : ℕ) (Meets Breaks : ℕ → Type 0) (n i : ℕ) : Type 0 where
  of_lengths : (Lengths → ⊥) → i ≡ shortest → FaultAt Lengths shortest Meets Breaks n i
  of_row : Lengths → FirstRow Meets Breaks n i → FaultAt Lengths shortest Meets Breaks n i

-- What partition i must meet: "Each start is below its end, each end is at most P - 1", and the lengths up to its own make at most 10^15.
pub record PartitionMeets (P : ℕ) (p : Partitions) (i : ℕ) : Type 0 where
  pub own : PartitionFacts P p i
  pub sum : lengths_before p (i + 1) ≤ largest_total

pub data PartitionBreaks (P : ℕ) (p : Partitions) (i : ℕ) : Type 0 where
  start_at_end : end_of p i ≤ start_of p i → PartitionBreaks P p i
  end_at_P : P ≤ end_of p i → PartitionBreaks P p i
  -- "for a sum the row that passes the limit"
  sum_passes : largest_total < lengths_before p (i + 1) → PartitionBreaks P p i

-- "of one length from 1 to 9,999"
pub record PartitionLengths (p : Partitions) : Type 0 where
  pub one_length : length p.ends ≡ partitions_in p
  pub some : 1 ≤ partitions_in p
  pub few : partitions_in p ≤ most_partitions

abbrev pub PartitionsFaultAt : ℕ → Partitions → ℕ → Type 0
PartitionsFaultAt P p i =
    FaultAt (PartitionLengths p) (min (length p.starts) (length p.ends)) (PartitionMeets P p) (PartitionBreaks P p) (partitions_in p) i

-- What segment i must meet: by itself and on its line (`SegmentFacts`), against the row before it, and as the last row.
pub record SegmentMeets (unit total : ℕ) (g : Segments) (i : ℕ) : Type 0 where
  pub own : SegmentFacts unit total g i
  pub grows : (j : ℕ) → i ≡ j + 1 → Grows g j
  pub last : i + 1 ≡ segments_in g → (row_of g i).count ≤ total

pub data SegmentBreaks (unit total : ℕ) (g : Segments) (i : ℕ) : Type 0 where
  too_early : le_z earliest_time (row_of g i).time ≡ false → SegmentBreaks unit total g i
  too_late : le_z (row_of g i).time latest_time ≡ false → SegmentBreaks unit total g i
  rate_low : (row_of g i).rate < unit → SegmentBreaks unit total g i
  rate_high : largest_rate < (row_of g i).rate → SegmentBreaks unit total g i
  -- "between two rows the later one"
  count_not_above : (j : ℕ) → i ≡ j + 1 → (row_of g i).count ≤ (row_of g j).count → SegmentBreaks unit total g i
  time_not_after : (j : ℕ) → i ≡ j + 1 → lt_z (row_of g j).time (row_of g i).time ≡ false → SegmentBreaks unit total g i
  -- "for a line its own row"
  line_too_late : le_z (line_at unit (row_of g i) (segment_end total g.counts i)) latest_time ≡ false → SegmentBreaks unit total g i
  -- "for a count above the total the last"
  last_above_total : i + 1 ≡ segments_in g → total < (row_of g i).count → SegmentBreaks unit total g i

-- "of one length, 1 to 10,000"
pub record SegmentLengths (g : Segments) : Type 0 where
  pub times_length : length g.times ≡ segments_in g
  pub rates_length : length g.rates ≡ segments_in g
  pub some : 1 ≤ segments_in g
  pub few : segments_in g ≤ most_segments

abbrev pub SegmentsFaultAt : ℕ → ℕ → Segments → ℕ → Type 0
SegmentsFaultAt unit total g i =
    FaultAt (SegmentLengths g) (min (length g.counts) (min (length g.times) (length g.rates))) (SegmentMeets unit total g)
    (SegmentBreaks unit total g) (segments_in g) i

-- The fault of a table is found at i exactly where it is.
abbrev pub PartitionsPlace : Type 0
PartitionsPlace = (P : ℕ) (p : Partitions) (i : ℕ) → partitions_fault P p ≡ some i ↔ PartitionsFaultAt P p i

abbrev pub SegmentsPlace : Type 0
SegmentsPlace = (unit total : ℕ) (g : Segments) (i : ℕ) → segments_fault unit total g ≡ some i ↔ SegmentsFaultAt unit total g i
