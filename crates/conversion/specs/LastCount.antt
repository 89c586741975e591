-- The last count of a segment: "where a next segment exists and this reaches its count, the answer is that count less one".
use Rattle.std.specs.Prelude.{ℕ, ◌+◌, ◌-◌, ◌^◌, ◌≤◌, ◌<◌, cond, List, length, get_or}
use Rattle.rules.specs.Segments.{has_next}

-- segment i is there, and a next one's count is above 0
pub record HasCount (counts : List ℕ) (i : ℕ) : Type 0 where
  pub there : i < length counts
  pub next : i + 1 < length counts → 1 ≤ get_or counts (i + 1) 0

-- of segment i of those with these counts; the last goes on to any number of 64 bits
unfoldable pub last_count : List ℕ → ℕ → ℕ
last_count counts i = cond (has_next counts i) (get_or counts (i + 1) 0 - 1) (2 ^ 64 - 1)
