-- What the answer of `succeeds` means by demand 3: "yes implies `Demand3`, a named failure implies that hypothesis is false".
use Rattle.std.specs.Prelude.{ℕ, ◌≤◌, ◌<◌, ◌≡◌}
use Rattle.rules.specs.Partitions.{partitions_in, total_of}
use Rattle.rules.specs.Segments.{segments_in, row_of}
use Rattle.versions.specs.Versions.{Table, Accepted, Hypothesis, Says, Demand3}
use Rattle.versions.specs.Versions.{same-n, same_moduli, same_offsets, same-delimiter, kept-starts, kept-ends, last_end, kept-counts, kept-times, kept-rates, further-counts, no_step_back}
use Rattle.versions.specs.Seam.{seam_of, SaysAtSeam}
use Rattle.succession_rules.specs.declared.Condition.{Condition}
use Rattle.succession_rules.specs.declared.Condition.TheVariants as Asked
use Rattle.succession_rules.specs.declared.Failure.{Failure}
use Rattle.succession_rules.specs.OfTwo.{answered}
use Rattle.succession_rules.specs.Rows.{PartitionRow, SegmentRow}
use Rattle.succession_rules.specs.Succession.{succeeds, fails, succession}

-- "in the order layout, partition, segment, further, seam"
unfoldable pub turn : Condition → ℕ
turn Asked.Layout = 0
turn Asked.Partition = 1
turn Asked.Segment = 2
turn Asked.Further = 3
turn Asked.Seam = 4

-- row i is the first from a on and below n of which F does not hold
pub record FirstFailing (F : ℕ → Type 0) (a n i : ℕ) : Type 0 where
  pub within : a ≤ i
  pub below : i < n
  pub fails : F i → ⊥
  pub before : (j : ℕ) → a ≤ j → j < i → F j

module _ (older newer : Table) where
  -- the hypotheses that a condition stands for
  abbrev pub Holds : Condition → Type 0
  Holds Asked.Layout = Says older newer same-n × Says older newer same_moduli × Says older newer same_offsets × Says older newer same-delimiter
  Holds Asked.Partition = Says older newer kept-starts × Says older newer kept-ends × Says older newer last_end
  Holds Asked.Segment = Says older newer kept-counts × Says older newer kept-times × Says older newer kept-rates
  Holds Asked.Further = Says older newer further-counts
  Holds Asked.Seam = SaysAtSeam older newer no_step_back

  -- "with its row (the first that fails, 0 for the layout)"
  abbrev pub FirstRow : Condition → ℕ → Type 0
  FirstRow Asked.Layout i = i ≡ 0
  FirstRow Asked.Partition i = FirstFailing (PartitionRow older.partitions newer.partitions) 0 (partitions_in older.partitions) i
  FirstRow Asked.Segment i = FirstFailing (SegmentRow older.segments newer.segments) 0 (segments_in older.segments) i
  FirstRow Asked.Further i =
      FirstFailing (λ j. total_of older.partitions < (row_of newer.segments j).count) (segments_in older.segments) (segments_in newer.segments) i
  FirstRow Asked.Seam i = i ≡ seam_of older

  -- all that is asked
  pub record Succeeds : Type 0 where
    pub accepted_older : Accepted older
    pub accepted_newer : Accepted newer
    pub says : (h : Hypothesis) → SaysAtSeam older newer h

  -- what a named failure says: its condition does not hold, those before it do, and the row is the first
  pub record Failing (f : Failure) : Type 0 where
    pub accepted_older : Accepted older
    pub accepted_newer : Accepted newer
    pub fails : Holds f.condition → ⊥
    pub before : (c : Condition) → turn c < turn f.condition → Holds c
    pub row : FirstRow f.condition f.row
    -- so not all that demand 3 asks holds
    pub not_all : ((h : Hypothesis) → Says older newer h) → ⊥

  pub record SuccessionMeans : Type 0 where
    pub yes : succession older newer ≡ answered succeeds → Succeeds
    pub only_then : Succeeds → succession older newer ≡ answered succeeds
    pub demand_3 : succession older newer ≡ answered succeeds → Demand3 older newer
    pub no : (f : Failure) → succession older newer ≡ answered (fails f) → Failing f
