-- What the two conversions promise beyond their definitions: how near an answer is, said without a division, and its range.
use Rattle.std.specs.Prelude.{ℕ, ◌+◌, ◌-◌, ◌*◌, ◌≤◌, ◌<◌, ◌≡◌, true, ℤ}
use Rattle.std.proofs.Math.Option.{some}
use Rattle.std.specs.Int.Signed.{le_z}
use Rattle.rules.specs.Limits.{earliest_time, latest_time}
use Rattle.base.specs.Signed.{later, elapsed}
use Rattle.rules.specs.declared.Layout.{Layout}
use Rattle.rules.specs.declared.Segment.{Segment}
use Rattle.rules.specs.Answer.{answer, time_of_count, count_at_time}
use Rattle.rules.specs.Layout.{unit_of}
use Rattle.rules.specs.Partitions.{Partitions}
use Rattle.rules.specs.Segments.{Segments, segments_in, row_of, segments_ok}
use Rattle.rules.specs.Time.{segment_of, segment_at, stopped_at, time_of, count_at}

-- The answer t is d after the segment's time. "The first whole nanosecond at or after" the exact time rate×(e - count) / unit:
-- d is at or after it, and d - 1 is before it, "so it is less than 1 ns late".
pub record FirstAtOrAfter (unit : ℕ) (s : Segment) (e d : ℕ) : Type 0 where
  pub at_or_after : s.rate * (e - s.count) ≤ d * unit
  pub less_than_one_late : d * unit < s.rate * (e - s.count) + unit

abbrev pub TimeIsNearest : Type 0
TimeIsNearest =
    (l : Layout) (p : Partitions) (g : Segments) (e : ℕ) (t : ℤ) → time_of l p g e ≡ answer (time_of_count t)
    → (i : ℕ) × (d : ℕ) × (segment_of g.counts e ≡ some i) × (t ≡ later (row_of g i).time d) × FirstAtOrAfter (unit_of l) (row_of g i) e d

-- q ticks after the segment's count: the last whole tick at or before (T - time)×unit / rate
pub record LastAtOrBefore (unit : ℕ) (s : Segment) (t : ℤ) (q : ℕ) : Type 0 where
  pub at_or_before : q * s.rate ≤ elapsed s.time t * unit
  pub less_than_one_early : elapsed s.time t * unit < (q + 1) * s.rate

abbrev pub CountIsNearest : Type 0
CountIsNearest =
    (l : Layout) (p : Partitions) (g : Segments) (t : ℤ) (c : ℕ) → count_at l p g t ≡ answer (count_at_time c)
    → (i : ℕ) × (q : ℕ) × (segment_at g.times t ≡ some i) × (c ≡ stopped_at g.counts i ((row_of g i).count + q)) × LastAtOrBefore (unit_of l) (row_of g i) t q

-- "A rate lies from 1,000×MSF .., so a tick lasts at least 1 ns."
abbrev pub TickLasts : Type 0
TickLasts = (unit total : ℕ) (g : Segments) → segments_ok unit total g ≡ true → (i : ℕ) → i < segments_in g → unit ≤ (row_of g i).rate

-- So that 14 never comes from count to time: an answer lies within ±4×10^18.
abbrev pub TimeInRange : Type 0
TimeInRange =
    (l : Layout) (p : Partitions) (g : Segments) (e : ℕ) (t : ℤ) → time_of l p g e ≡ answer (time_of_count t) → (le_z earliest_time t ≡ true) × (le_z t latest_time ≡ true)

-- 12 and 13 never both hold: a count above the total is not before the first segment.
abbrev pub TwelveNotThirteen : Type 0
TwelveNotThirteen = (unit total : ℕ) (g : Segments) → segments_ok unit total g ≡ true → (e : ℕ) → total < e → (row_of g 0).count ≤ e
