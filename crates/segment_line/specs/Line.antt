-- What a segment's line needs so that its numbers fit 64 bits.
use Rattle.std.specs.Prelude.{ℕ, ◌^◌, ◌≤◌, ◌<◌, ◌≡◌, true, ℤ}
use Rattle.std.specs.Int.Signed.{le_z, mag}
use Rattle.rules.specs.declared.Segment.{Segment}
use Rattle.rules.specs.Segments.{line_at}

-- a count to its time: the count is not before the segment's, and the time reached is an i64
pub record ToTime (unit : ℕ) (s : Segment) (e : ℕ) : Type 0 where
  pub unit_low : 1 ≤ unit
  pub unit_high : unit ≤ 2 ^ 63
  pub begun : s.count ≤ e
  pub reached : mag (line_at unit s e) < 2 ^ 63

-- a time to its ticks: the time is not before the segment's, and a tick lasts at least 1 ns
pub record ToTicks (unit : ℕ) (s : Segment) (t : ℤ) : Type 0 where
  pub unit_low : 1 ≤ unit
  pub rate_low : unit ≤ s.rate
  pub rate_high : s.rate ≤ 2 ^ 63
  pub begun : le_z s.time t ≡ true
