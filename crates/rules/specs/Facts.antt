-- The named facts of an accepted table. proofs/Accepted.antt shows that a table is accepted exactly where they hold.
use Rattle.std.specs.Prelude.{ℕ, ◌+◌, ◌-◌, ◌≤◌, ◌<◌, ◌≡◌, true, leb, length}
use Rattle.std.specs.Int.Signed.{le_z, lt_z}
use Rattle.base.specs.Scans.{all}
use Rattle.rules.specs.Limits.{
  most_fields,
  largest_offset,
  largest_p,
  largest_msf,
  last_delimiter,
  most_partitions,
  largest_total,
  most_segments,
  earliest_time,
  latest_time,
  largest_rate,
}
use Rattle.rules.specs.declared.Layout.{Layout}
use Rattle.rules.specs.Layout.{moduli_of, offsets_of, product_of, msf_of}
use Rattle.rules.specs.Partitions.{Partitions, partitions_in, start_of, end_of, total_of}
use Rattle.rules.specs.Segments.{Segments, segments_in, row_of, line_at, segment_end}

pub record LayoutFacts (l : Layout) : Type 0 where
  pub fields : 1 ≤ l.n
  pub few_fields : l.n ≤ most_fields
  pub moduli : all (λ m. leb 1 m) (moduli_of l) ≡ true
  pub offsets : all (λ o. leb o largest_offset) (offsets_of l) ≡ true
  pub product : product_of l ≤ largest_p
  pub msf : msf_of l ≤ largest_msf
  pub delimiter_low : 1 ≤ l.delimiter
  pub delimiter_high : l.delimiter ≤ last_delimiter

pub record PartitionFacts (P : ℕ) (p : Partitions) (i : ℕ) : Type 0 where
  pub ordered : start_of p i < end_of p i
  pub in-range : end_of p i < P

pub record PartitionsFacts (P : ℕ) (p : Partitions) : Type 0 where
  pub one_length : length p.ends ≡ partitions_in p
  pub some : 1 ≤ partitions_in p
  pub few : partitions_in p ≤ most_partitions
  pub each : (i : ℕ) → i < partitions_in p → PartitionFacts P p i
  pub total : total_of p ≤ largest_total

pub record SegmentFacts (unit total : ℕ) (g : Segments) (i : ℕ) : Type 0 where
  pub early : le_z earliest_time (row_of g i).time ≡ true
  pub late : le_z (row_of g i).time latest_time ≡ true
  pub rate_low : unit ≤ (row_of g i).rate
  pub rate_high : (row_of g i).rate ≤ largest_rate
  pub line : le_z (line_at unit (row_of g i) (segment_end total g.counts i)) latest_time ≡ true

-- segment i + 1 begins after segment i, in count and in time
pub record Grows (g : Segments) (i : ℕ) : Type 0 where
  pub counts : (row_of g i).count < (row_of g (i + 1)).count
  pub times : lt_z (row_of g i).time (row_of g (i + 1)).time ≡ true

pub record SegmentsFacts (unit total : ℕ) (g : Segments) : Type 0 where
  pub times_length : length g.times ≡ segments_in g
  pub rates_length : length g.rates ≡ segments_in g
  pub some : 1 ≤ segments_in g
  pub few : segments_in g ≤ most_segments
  pub last : (row_of g (segments_in g - 1)).count ≤ total
  pub each : (i : ℕ) → i < segments_in g → SegmentFacts unit total g i
  pub grow : (i : ℕ) → i + 1 < segments_in g → Grows g i
