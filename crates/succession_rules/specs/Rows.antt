-- A row that is kept, as facts. proofs/Rows.antt shows that the tests of Kept hold exactly then.
use Rattle.std.specs.Prelude.{ℕ, ◌+◌, ◌≤◌, ◌<◌, ◌≡◌}
use Rattle.rules.specs.Partitions.{Partitions, partitions_in, start_of, end_of}
use Rattle.rules.specs.Segments.{Segments, segments_in, row_of}

pub record PartitionRow (older newer : Partitions) (i : ℕ) : Type 0 where
  pub there : i < partitions_in newer
  pub start : start_of newer i ≡ start_of older i
  pub inner : i + 1 < partitions_in older → end_of newer i ≡ end_of older i
  pub last : partitions_in older ≤ i + 1 → end_of older i ≤ end_of newer i

pub record SegmentRow (older newer : Segments) (i : ℕ) : Type 0 where
  pub there : i < segments_in newer
  pub count : (row_of newer i).count ≡ (row_of older i).count
  pub time : (row_of newer i).time ≡ (row_of older i).time
  pub rate : (row_of newer i).rate ≡ (row_of older i).rate
