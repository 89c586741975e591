-- A quotient rounded down and rounded up, of a divisor of at least 1.
use Rattle.std.specs.Prelude.{ℕ, ◌+◌, ◌-◌, ◌/◌}

-- the last whole number at or below x / d
unfoldable pub round_down : ℕ → ℕ → ℕ
round_down x d = x / d

-- the first whole number at or above x / d
unfoldable pub round_up : ℕ → ℕ → ℕ
round_up x d = (x + (d - 1)) / d
