-- The table "What is refused": which numbers it has without a place, and which with one.
use Rattle.std.specs.Prelude.{ℕ, Bool, [], ◌∷◌, Some, None}
use Rattle.std.specs.Prelude.{Option as Place}
use Rattle.base.specs.Scans.{among}

unfoldable pub listed : ℕ → Place ℕ → Bool
listed k None = among k (1 ∷ 4 ∷ 6 ∷ 9 ∷ 10 ∷ 11 ∷ 12 ∷ 13 ∷ 14 ∷ 15 ∷ 16 ∷ 18 ∷ 19 ∷ 20 ∷ 21 ∷ 22 ∷ 23 ∷ 24 ∷ 25 ∷ 26 ∷ 27 ∷ [])
listed k (Some i) = among k (2 ∷ 3 ∷ 5 ∷ 7 ∷ 8 ∷ 9 ∷ [])
