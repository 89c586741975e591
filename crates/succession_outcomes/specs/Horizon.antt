-- What the horizon of two tables means. "Every encoded count below it has one time in both; a stamp that either table reads to a count below it
-- reads so in the other."
use Rattle.std.specs.Prelude.{ℕ, ◌≤◌, ◌<◌, ◌≡◌, refl, List, [], ◌∷◌, map, pos, negsuc}
use Rattle.rules.specs.declared.Reading.{Reading}
use Rattle.rules.specs.declared.TimeOfCount.{TimeOfCount}
use Rattle.rules.specs.Answer.{Answer, answer, time_of_count}
use Rattle.rules.specs.Partitions.{total_of}
use Rattle.versions.specs.Versions.{Table, read_by, time_by}
use Rattle.versions.specs.Needed.{table_a}
use Rattle.succession_rules.specs.OfTwo.{answered}
use Rattle.succession_rules.specs.Succession.{succeeds, succession}
use Rattle.succession_rules.specs.Horizon.{horizon_of}
use Rattle.succession_rules.specs.Computing.{two_tables}
use Rattle.succession_rules.specs.Examples.{along_a}

pub record AgreeBelow (older newer : Table) (h : ℕ) : Type 0 where
  -- a time, or 13 in both
  pub one_time : (e : ℕ) → e < h → time_by newer e ≡ time_by older e
  pub older_reads : (s : List ℕ) (r : Reading) → read_by older s ≡ answer r → r.count < h → read_by newer s ≡ answer r
  pub newer_reads : (s : List ℕ) (r : Reading) → read_by newer s ≡ answer r → r.count < h → read_by older s ≡ answer r
  pub within : h ≤ total_of older.partitions

pub record HorizonMeans (older newer : Table) : Type 0 where
  pub agree : (h : ℕ) → horizon_of older newer ≡ answered h → AgreeBelow older newer h
  -- where the newer succeeds, the horizon is all that the older has
  pub whole : succession older newer ≡ answered succeeds → horizon_of older newer ≡ answered (total_of older.partitions)

-- At the horizon itself the two may differ: table A, and A with its second segment from 550 on.
abbrev pub earlier : Table
earlier = along_a (0 ∷ 550 ∷ []) (negsuc 999 ∷ pos 1_000 ∷ []) (25_000 ∷ 30_000 ∷ [])

abbrev pub times : Table → List (Answer TimeOfCount)
times t = map (time_by t) (549 ∷ 550 ∷ [])

pub horizon_is_sharp : (horizon_of table_a earlier ≡ answered 550)
    × (times table_a ≡ (answer (time_of_count (pos 373)) ∷ answer (time_of_count (pos 375)) ∷ []))
    × (times earlier ≡ (answer (time_of_count (pos 373)) ∷ answer (time_of_count (pos 1_000)) ∷ []))
unfolding two_tables
horizon_is_sharp = (refl, refl, refl)
