-- How many entries the lists hold.
use Rattle.std.specs.Prelude.{ℕ}

-- "each list holds up to 10,001"
abbrev pub most_entries : ℕ
most_entries = 10001
