-- Lists that grow: "Counts grow strictly", "Times grow strictly".
use Rattle.std.specs.Prelude.{ℕ, ◌+◌, ◌<◌, ◌≡◌, true, List, ℤ, pos, length, get_or}
use Rattle.std.specs.Int.Signed.{lt_z}

pub record CountsGrow (counts : List ℕ) : Type 0 where
  pub grow : (i : ℕ) → i + 1 < length counts → get_or counts i 0 < get_or counts (i + 1) 0

pub record TimesGrow (times : List ℤ) : Type 0 where
  pub grow : (i : ℕ) → i + 1 < length times → lt_z (get_or times i (pos 0)) (get_or times (i + 1) (pos 0)) ≡ true
