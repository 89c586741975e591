-- What the lines between accepted segments need: of one row, and of all.
use Rattle.std.specs.Prelude.{ℕ, ◌+◌, ◌≤◌, ◌<◌}
use Rattle.rules.specs.Limits.{most_segments}
use Rattle.rules.specs.Segments.{Segments, segments_in, row_of}
use Rattle.segments.specs.Rows.{RowIn}
use Rattle.segment_line.specs.Line.{ToTime}

-- row i and the next are there, and the line of row i reaches a time where the next begins
pub record NextReached (unit : ℕ) (g : Segments) (i : ℕ) : Type 0 where
  pub here : RowIn g i
  pub next : RowIn g (i + 1)
  pub line : ToTime unit (row_of g i) (row_of g (i + 1)).count

pub record AllReached (unit : ℕ) (g : Segments) : Type 0 where
  pub few : segments_in g ≤ most_segments
  pub each : (i : ℕ) → i < segments_in g → RowIn g i
  pub nexts : (i : ℕ) → i + 1 < segments_in g → NextReached unit g i
