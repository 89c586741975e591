-- What a newer table keeps of an older one, part by part, and the first row that it does not.
-- Rows count from 0.
use Rattle.std.specs.Prelude.{ℕ, ◌+◌, Bool, not, ◌||◌, cond, List, [], ◌∷◌, eqb, leb, ltb, length, take, get_or}
use Rattle.std.proofs.Math.Option.{Option, none, some}
use Rattle.base.specs.Scans.{all_of, first_not}
use Rattle.rules.specs.declared.Layout.{Layout}
use Rattle.rules.specs.declared.Segment.{Segment}
use Rattle.rules.specs.Answer.{fails_at}
use Rattle.rules.specs.Layout.{moduli_of, offsets_of}
use Rattle.rules.specs.Partitions.{Partitions, partitions_in, start_of, end_of}
use Rattle.rules.specs.Segments.{Segments, segments_in, row_of, steps_back_at}
use Rattle.versions.specs.Equal.{eq_z, same}

-- the row that was found, or n, the number of rows: so many rows at the front are as they must be
unfoldable pub row_or : ℕ → Option ℕ → ℕ
row_or n (some i) = i
row_or n none = n

-- "n, the first n moduli, the first n offsets and the delimiter are equal"
unfoldable pub same_layout : Layout → Layout → Bool
same_layout older newer =
    all_of
    (eqb newer.n older.n
    ∷ same eqb (take older.n newer.moduli) (moduli_of older)
    ∷ same eqb (take older.n newer.offsets) (offsets_of older)
    ∷ eqb newer.delimiter older.delimiter
    ∷ [])

-- "only the end of the older's last partition may be greater in the newer"; more says that partition i is not the older's last
unfoldable pub end_kept : Bool → ℕ → ℕ → Bool
end_kept more older newer = cond more (eqb newer older) (leb older newer)

-- the newer has partition i, with the start and the end that it must have
unfoldable pub partition_kept : Partitions → Partitions → ℕ → Bool
partition_kept older newer i =
    all_of
    (ltb i (partitions_in newer)
    ∷ eqb (start_of newer i) (start_of older i)
    ∷ end_kept (ltb (i + 1) (partitions_in older)) (end_of older i) (end_of newer i)
    ∷ [])

-- the first of the older's partitions that the newer does not keep
unfoldable pub partition_lost : Partitions → Partitions → Option ℕ
partition_lost older newer = first_not (partition_kept older newer) (partitions_in older)

-- "every number equal"
unfoldable pub same_segment : Segment → Segment → Bool
same_segment older newer =
    all_of (eqb newer.count older.count ∷ eq_z newer.time older.time ∷ eqb newer.rate older.rate ∷ [])

-- the newer has segment i as the older has it
unfoldable pub segment_kept : Segments → Segments → ℕ → Bool
segment_kept older newer i = all_of (ltb i (segments_in newer) ∷ same_segment (row_of older i) (row_of newer i) ∷ [])

-- the first of the older's segments that the newer does not keep
unfoldable pub segment_lost : Segments → Segments → Option ℕ
segment_lost older newer = first_not (segment_kept older newer) (segments_in older)

-- "any further segment has a count above the older's total": after the first `kept` rows
unfoldable pub further_above : ℕ → ℕ → List ℕ → ℕ → Bool
further_above total kept counts i = ltb i kept || ltb total (get_or counts i 0)

-- the first further segment whose count is not
unfoldable pub further_low : ℕ → ℕ → List ℕ → Option ℕ
further_low total kept counts = first_not (further_above total kept counts) (length counts)

-- "'nowhere steps back' asked of the seam alone": of one row
unfoldable pub seam_back : ℕ → Segments → ℕ → Option ℕ
seam_back unit newer row = fails_at row (not (steps_back_at unit newer row))
