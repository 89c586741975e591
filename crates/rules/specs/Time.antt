-- "Time": the time of an encoded count, the count at a time, and whether a table steps back.
use Rattle.std.specs.Prelude.{ℕ, ◌+◌, ◌-◌, ◌*◌, Bool, ◌&&◌, cond, List, ℤ, pos, leb, length, get_or}
use Rattle.std.proofs.Math.Option.{Option, none, some}
use Rattle.std.specs.Int.Signed.{le_z}
use Rattle.base.specs.Scans.{last_below}
use Rattle.base.specs.Rounding.{round_down}
use Rattle.base.specs.Signed.{elapsed}
use Rattle.rules.specs.Limits.{earliest_time, latest_time}
use Rattle.rules.specs.declared.Layout.{Layout}
use Rattle.rules.specs.declared.Segment.{Segment}
use Rattle.rules.specs.declared.TimeOfCount.{TimeOfCount}
use Rattle.rules.specs.declared.CountAtTime.{CountAtTime}
use Rattle.rules.specs.Layout.{unit_of}
use Rattle.rules.specs.Partitions.{Partitions, total_of}
use Rattle.rules.specs.Segments.{Segments, row_of, has_next, line_at, steps_back}
use Rattle.rules.specs.Accepted.{accepted}
use Rattle.rules.specs.Answer.{Answer, answer, refuse, unless, time_of_count, count_at_time}

-- The call: does the table step back?
unfoldable pub steps_back_in : Layout → Partitions → Segments → Answer Bool
steps_back_in l p g = accepted l p g (answer (steps_back (unit_of l) g))

-- "The segment of e is the last whose count is at most e."
unfoldable pub segment_of : List ℕ → ℕ → Option ℕ
segment_of counts e = last_below (λ i. leb (get_or counts i 0) e) (length counts)

-- "The answer is the first whole nanosecond at or after" the exact time; "13: count .. before the first segment"
unfoldable pub time_on : ℕ → Segments → ℕ → Option ℕ → Answer TimeOfCount
time_on unit g e (some i) = answer (time_of_count (line_at unit (row_of g i) e))
time_on unit g e none = refuse 13

-- "12: encoded count above the total"
unfoldable pub time_in : ℕ → ℕ → Segments → ℕ → Answer TimeOfCount
time_in unit total g e = unless 12 (leb e total) (time_on unit g e (segment_of g.counts e))

-- The call: the time of an encoded count. Never 14: the time lies within ±4×10^18 (`TimeInRange` of time).
unfoldable pub time_of : Layout → Partitions → Segments → ℕ → Answer TimeOfCount
time_of l p g e = accepted l p g (time_in (unit_of l) (total_of p) g e)

-- "the last segment i with time(i) at most T"
unfoldable pub segment_at : List ℤ → ℤ → Option ℕ
segment_at times t = last_below (λ i. le_z (get_or times i (pos 0)) t) (length times)

-- "(T - time(i))×1,000×MSF / rate(i), rounded down"
unfoldable pub ticks_since : ℕ → Segment → ℤ → ℕ
ticks_since unit s t = round_down (elapsed s.time t * unit) s.rate

-- "count(i) + .."
unfoldable pub line_count : ℕ → Segment → ℤ → ℕ
line_count unit s t = s.count + ticks_since unit s t

-- "where a next segment exists and this reaches its count, the answer is that count less one"
unfoldable pub stopped_at : List ℕ → ℕ → ℕ → ℕ
stopped_at counts i c = cond (has_next counts i && leb (get_or counts (i + 1) 0) c) (get_or counts (i + 1) 0 - 1) c

-- "14: .. its answer above the total"
unfoldable pub not_beyond : ℕ → ℕ → Answer CountAtTime
not_beyond total c = unless 14 (leb c total) (answer (count_at_time c))

-- "13: .. time before the first segment"
unfoldable pub count_on : ℕ → ℕ → Segments → ℤ → Option ℕ → Answer CountAtTime
count_on unit total g t (some i) = not_beyond total (stopped_at g.counts i (line_count unit (row_of g i) t))
count_on unit total g t none = refuse 13

-- "14 for the range, .. 13, .. 14 for the answer"
unfoldable pub count_in : ℕ → ℕ → Segments → ℤ → Answer CountAtTime
count_in unit total g t = unless 14 (le_z earliest_time t && le_z t latest_time) (count_on unit total g t (segment_at g.times t))

-- The call: the count at a time.
unfoldable pub count_at : Layout → Partitions → Segments → ℤ → Answer CountAtTime
count_at l p g t = accepted l p g (count_in (unit_of l) (total_of p) g t)
