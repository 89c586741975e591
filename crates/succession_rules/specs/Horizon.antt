-- The count below which two tables agree: "the lesser of the older's total and the count of the first segment that differs in either table
-- (none: the total); 0 where the layout differs or partitions are not kept as in demand 3".
use Rattle.std.specs.Prelude.{ℕ, min, Bool, ◌&&◌, cond, List, ltb, length, get_or}
use Rattle.base.specs.Scans.{is_none}
use Rattle.rules.specs.Partitions.{total_of}
use Rattle.rules.specs.Segments.{Segments, segments_in}
use Rattle.versions.specs.Versions.{Table}
use Rattle.succession_rules.specs.OfTwo.{OfTwo, of_two}
use Rattle.succession_rules.specs.Kept.{row_or, same_layout, partition_lost, segment_lost}

-- the first row in which the two lists of segments differ, also where one has ended: that many rows they share
unfoldable pub shared_rows : Segments → Segments → ℕ
shared_rows older newer = row_or (segments_in older) (segment_lost older newer)

-- where segment i begins; "none: the total"
unfoldable pub begins_at : ℕ → List ℕ → ℕ → ℕ
begins_at total counts i = cond (ltb i (length counts)) (get_or counts i 0) total

-- "the lesser of the older's total and the count of the first segment that differs in either table": total is the older's
unfoldable pub agree_below : ℕ → Segments → Segments → ℕ
agree_below total older newer =
    let i = shared_rows older newer in
    min total (min (begins_at total older.counts i) (begins_at total newer.counts i))

-- one layout, and partitions kept as in demand 3
unfoldable pub stamps_kept : Table → Table → Bool
stamps_kept older newer = same_layout older.layout newer.layout && is_none (partition_lost older.partitions newer.partitions)

-- of two accepted tables
unfoldable pub horizon_in : Table → Table → ℕ
horizon_in older newer = cond (stamps_kept older newer) (agree_below (total_of older.partitions) older.segments newer.segments) 0

-- The call.
unfoldable pub horizon_of : Table → Table → OfTwo ℕ
horizon_of older newer = of_two older newer (horizon_in older newer)
