-- Whether a newer table succeeds an older one: "yes, where demand 3's hypotheses hold with 'nowhere steps back' asked of the seam alone; else the
-- first that fails, in the order layout, partition, segment, further, seam, with its row (the first that fails, 0 for the layout)".
use Rattle.std.specs.Prelude.{ℕ, Result, Ok, Err}
use Rattle.std.proofs.Math.Option.{Option, none, some}
use Rattle.rules.specs.Answer.{fails_at}
use Rattle.rules.specs.Layout.{unit_of}
use Rattle.rules.specs.Partitions.{total_of}
use Rattle.rules.specs.Segments.{segments_in}
use Rattle.versions.specs.Versions.{Table}
use Rattle.versions.specs.Seam.{seam_of}
use Rattle.succession_rules.specs.declared.Condition.{Condition}
use Rattle.succession_rules.specs.declared.Condition.TheVariants as Asked
use Rattle.succession_rules.specs.declared.Failure.{Failure}
use Rattle.succession_rules.specs.OfTwo.{OfTwo, of_two}
use Rattle.succession_rules.specs.Kept.{same_layout, partition_lost, segment_lost, further_low, seam_back}

abbrev pub failure : Condition → ℕ → Failure
failure c i = record { condition = c; row = i }

pub data Verdict : Type 0 where
  succeeds : Verdict
  fails : Failure → Verdict

-- what follows where nothing fails, and otherwise the condition with its row
unfoldable pub unless_fails : Condition → Option ℕ → Verdict → Verdict
unless_fails c none v = v
unless_fails c (some i) v = fails (failure c i)

-- of two accepted tables
unfoldable pub verdict : Table → Table → Verdict
verdict older newer =
    unless_fails Asked.Layout (fails_at 0 (same_layout older.layout newer.layout))
    (unless_fails Asked.Partition (partition_lost older.partitions newer.partitions)
    (unless_fails Asked.Segment (segment_lost older.segments newer.segments)
    (unless_fails Asked.Further (further_low (total_of older.partitions) (segments_in older.segments) newer.segments.counts)
    (unless_fails Asked.Seam (seam_back (unit_of newer.layout) newer.segments (seam_of older))
    succeeds))))

-- The call.
unfoldable pub succession : Table → Table → OfTwo Verdict
succession older newer = of_two older newer (verdict older newer)

-- What the code's answer says.
abbrev pub verdict_of : Result (Unit {0}) Failure → Verdict
verdict_of (Ok u) = succeeds
verdict_of (Err f) = fails f
