-- A list of numbers stored at the front of a lent list, as far as it has room.
use Rattle.std.specs.Prelude.{ℕ, ◌+◌, List, [], ◌∷◌, ◌++◌, length, take, drop, set}

-- what has room, then what was there
unfoldable pub stored : {A : Type 0} → List A → List A → List A
stored xs out = take (length out) xs ++ drop (length xs) out

-- one after the other from the row r on; beyond the end nothing is stored
unfoldable pub stored_from : {A : Type 0} → List A → ℕ → List A → List A
stored_from out r [] = out
stored_from out r (x ∷ xs) = stored_from (set out r x) (r + 1) xs
