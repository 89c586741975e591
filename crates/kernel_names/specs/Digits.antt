use Rattle.std.specs.Prelude.{ℕ}

-- A clock's number has 64 bits, so at most 20 digits.
abbrev pub longest_digits : ℕ
longest_digits = 20
