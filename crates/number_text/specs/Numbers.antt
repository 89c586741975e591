-- A number and a time in decimal digits, as the programs print them.
use Rattle.std.specs.Prelude.{ℕ, ◌+◌, List, ◌∷◌, ℤ, pos, negsuc}
use Rattle.rules.specs.Print.{digit_count, last_digits}

-- a number in decimal digits
unfoldable pub decimal_of : ℕ → List ℕ
decimal_of x = last_digits (digit_count x) x

-- a time, with `-` in front where it is negative
unfoldable pub time_bytes : ℤ → List ℕ
time_bytes (pos n) = decimal_of n
time_bytes (negsuc n) = 45 ∷ decimal_of (n + 1)

-- the most bytes of a 64-bit number: 20 digits, or `-` and 19
abbrev pub longest_number : ℕ
longest_number = 20
