-- "Three lists of one length": count, time in nanoseconds, rate in picoseconds per first-field count.
-- Of the layout a segment list is checked by the unit 1,000×MSF alone, of the partitions by the total.
use Rattle.std.specs.Prelude.{ℕ, zero, suc, ◌+◌, ◌-◌, ◌*◌, min, Bool, true, ◌&&◌, ◌||◌, cond, List, [], ◌∷◌, ℤ, pos, leb, ltb, eqb, length, get_or}
use Rattle.std.proofs.Math.Option.{Option, none, some}
use Rattle.std.specs.Int.Signed.{le_z, lt_z}
use Rattle.base.specs.Scans.{all_of, first_not, is_none, some_below}
use Rattle.base.specs.Rounding.{round_up}
use Rattle.base.specs.Signed.{later}
use Rattle.rules.specs.Limits.{most_segments, earliest_time, latest_time, largest_rate}
use Rattle.rules.specs.declared.Segment.{Segment}

pub record Segments : Type 0 where
  pub counts : List ℕ
  pub times : List ℤ
  pub rates : List ℕ

abbrev pub segments : List ℕ → List ℤ → List ℕ → Segments
segments cs ts rs = record { counts = cs; times = ts; rates = rs }

-- how many segments there are
abbrev pub segments_in : Segments → ℕ
segments_in g = length g.counts

-- segment i, from 0
abbrev pub row_of : Segments → ℕ → Segment
row_of g i = record { count = get_or g.counts i 0; time = get_or g.times i (pos 0); rate = get_or g.rates i 0 }

-- segment i of those with these counts has a next one
abbrev pub has_next : List ℕ → ℕ → Bool
has_next counts i = ltb (i + 1) (length counts)

-- "Each segment ends at the next one's count, the last at the total"
unfoldable pub segment_end : ℕ → List ℕ → ℕ → ℕ
segment_end total counts i = cond (has_next counts i) (get_or counts (i + 1) 0) total

-- The time that a segment's own line reaches at the count e, rounded up: time + rate×(e - count) / (1,000×MSF).
unfoldable pub line_at : ℕ → Segment → ℕ → ℤ
line_at unit s e = later s.time (round_up (s.rate * (e - s.count)) unit)

-- What one row must meet by itself. "Times .. lie within ±4×10^18. A rate lies from 1,000×MSF to 10^15"
unfoldable pub row_ok : ℕ → Segment → Bool
row_ok unit s =
    all_of (le_z earliest_time s.time ∷ le_z s.time latest_time ∷ leb unit s.rate ∷ leb s.rate largest_rate ∷ [])

-- Against the row before it, where there is one. "Counts grow strictly", "Times grow strictly"
unfoldable pub follows : Option Segment → Segment → Bool
follows none s = true
follows (some before) s = all_of (ltb before.count s.count ∷ lt_z before.time s.time ∷ [])

-- Its line to its end. "the time reached there by the segment's own line, rounded up, is at most 4×10^18"
unfoldable pub line_ok : ℕ → Segment → ℕ → Bool
line_ok unit s end = le_z (line_at unit s end) latest_time

-- What one row must meet: by itself, against the row before it, and its line to its end.
unfoldable pub segment_ok : ℕ → Option Segment → Segment → ℕ → Bool
segment_ok unit before s end = all_of (row_ok unit s ∷ follows before s ∷ line_ok unit s end ∷ [])

-- the row before row i
unfoldable pub row_before : Segments → ℕ → Option Segment
row_before g zero = none
row_before g (suc i) = some (row_of g i)

-- "the last [count] is at most the total"; "for a count above the total the last" row
unfoldable pub within_total : ℕ → List ℕ → ℕ → Bool
within_total total counts i = has_next counts i || leb (get_or counts i 0) total

-- What row i must meet: "between two rows the later one", "for a line its own row".
unfoldable pub segment_ok_at : ℕ → ℕ → Segments → ℕ → Bool
segment_ok_at unit total g i =
    segment_ok unit (row_before g i) (row_of g i) (segment_end total g.counts i) && within_total total g.counts i

-- "of one length, 1 to 10,000"
unfoldable pub segment_lengths_ok : Segments → Bool
segment_lengths_ok g =
    all_of
    (eqb (length g.times) (segments_in g)
    ∷ eqb (length g.rates) (segments_in g)
    ∷ leb 1 (segments_in g)
    ∷ leb (segments_in g) most_segments
    ∷ [])

-- Where 3 is found. "Wrong list lengths come first and give the shortest length"; then "the first row, from 0, that breaks a rule".
unfoldable pub segments_fault : ℕ → ℕ → Segments → Option ℕ
segments_fault unit total g =
    cond (segment_lengths_ok g)
    (first_not (segment_ok_at unit total g) (segments_in g))
    (some (min (segments_in g) (min (length g.times) (length g.rates))))

-- accepted: no fault
abbrev pub segments_ok : ℕ → ℕ → Segments → Bool
segments_ok unit total g = is_none (segments_fault unit total g)

-- a line, rounded up, at the next segment's count is later than the next segment's time; equal is no step back
unfoldable pub overtakes : ℕ → Segment → Segment → Bool
overtakes unit s next = lt_z next.time (line_at unit s next.count)

unfoldable pub steps_back_at : ℕ → Segments → ℕ → Bool
steps_back_at unit g i = has_next g.counts i && overtakes unit (row_of g i) (row_of g (i + 1))

-- "A table steps back if some segment's line .." (the paper's term)
unfoldable pub steps_back : ℕ → Segments → Bool
steps_back unit g = some_below (steps_back_at unit g) (segments_in g)
