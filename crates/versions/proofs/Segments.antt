-- The newer keeps the old segments, and does not step back at the seam: row by row.
use Prim.Native.Nat.{ℕ, ◌+◌, ◌≤◌, ◌<◌}
use mathlib.Core.Path.{◌≡◌, ap}
use mathlib.Core.Bool.{true, false}
use lib.ListN.{length}
use lib.Signed.{lt_z}
use Rattle.rules.specs.Segments.{Segments, segments_in, row_of, overtakes}

-- total is the older's
pub record KeptSegments (unit total : ℕ) (g h : Segments) : Type 0 where
  pub some : 1 ≤ segments_in g
  pub more : segments_in g ≤ segments_in h
  pub older_times : length g.times ≡ segments_in g
  pub newer_times : length h.times ≡ segments_in h
  pub rows : (i : ℕ) → i < segments_in g → row_of h i ≡ row_of g i
  pub further : (i : ℕ) → segments_in g ≤ i → i < segments_in h → total < (row_of h i).count
  pub grow : (i : ℕ) → i + 1 < segments_in h → lt_z (row_of h i).time (row_of h (i + 1)).time ≡ true
  pub positive : (i : ℕ) → i < segments_in h → 1 ≤ (row_of h i).rate
  pub forward : (i : ℕ) → i + 1 ≡ segments_in g → i + 1 < segments_in h → overtakes unit (row_of h i) (row_of h (i + 1)) ≡ false

module _ (unit total : ℕ) (g h : Segments) (kept : KeptSegments unit total g h) (i : ℕ) (b : i < segments_in g) where
  pub count_same : (row_of h i).count ≡ (row_of g i).count
  count_same = ap (λ s. s.count) (kept.rows i b)

  pub time_same : (row_of h i).time ≡ (row_of g i).time
  time_same = ap (λ s. s.time) (kept.rows i b)
