-- Where the decimals of seconds begin, and nine of them.
use Rattle.std.specs.Prelude.{ℕ, ◌+◌, ◌-◌, min, cond, List, ◌++◌, eqb, get_or, take, drop, replicate}
use Rattle.command_rules.specs.Input.{spelled, spelled_from}
use Rattle.command_numbers.specs.Given.{number_cap}

-- the place behind a point that stands at i, or i itself
unfoldable pub point_end : List ℕ → ℕ → ℕ
point_end s i = cond (eqb (get_or s i 0) 46) (i + 1) i

-- "those that are not there 0"
unfoldable pub nine_decimals : List ℕ → List ℕ
nine_decimals s = take 9 (s ++ replicate 9 48)

-- the digits from i up to q and nine decimals from a on, as the code keeps them
unfoldable pub number_at : List ℕ → ℕ → ℕ → ℕ → ℕ
number_at s i q a = min (spelled_from (min (spelled (take (q - i) (drop i s))) number_cap) (nine_decimals (drop a s))) number_cap
