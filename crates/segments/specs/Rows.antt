-- What the segment check answers, and what its parts ask of the lists.
use Rattle.std.specs.Prelude.{ℕ, ◌+◌, ◌≤◌, ◌<◌, ◌≡◌, Bool, [], ◌∷◌, leb, eqb, length}
use Rattle.base.specs.Scans.{all_of}
use Rattle.rules.specs.Limits.{most_segments}
use Rattle.rules.specs.Answer.{Answer, answer, unless_at}
use Rattle.rules.specs.Segments.{Segments, segments_in, segments_fault}
use Rattle.rules.specs.Facts.{Grows}

-- 3, or nothing is wrong
unfoldable pub accepted_segments : ℕ → ℕ → Segments → Answer (Unit {0})
accepted_segments unit total g = unless_at 3 (segments_fault unit total g) (answer tt)

-- "of one length, 1 to 10,000"
unfoldable pub lengths_ok : ℕ → ℕ → ℕ → Bool
lengths_ok counts times rates = all_of (eqb times counts ∷ eqb rates counts ∷ leb 1 counts ∷ leb counts most_segments ∷ [])

-- row i is in every list
pub record RowIn (g : Segments) (i : ℕ) : Type 0 where
  pub count : i < segments_in g
  pub time : i < length g.times
  pub rate : i < length g.rates

-- of accepted segments the step-back test uses their lengths and their growth
pub record Rising (g : Segments) : Type 0 where
  pub times_length : length g.times ≡ segments_in g
  pub rates_length : length g.rates ≡ segments_in g
  pub some : 1 ≤ segments_in g
  pub grow : (i : ℕ) → i + 1 < segments_in g → Grows g i
