-- Signed numbers: one so much later, how much later one is than another, and one as an unsigned number.
use Rattle.std.specs.Prelude.{ℕ, suc, ◌+◌, ◌-◌, ℤ, pos, negsuc, nat_abs, ◌+ℤ◌, ◌-ℤ◌}

-- d after t
unfoldable pub later : ℤ → ℕ → ℤ
later t d = t +ℤ pos d

-- how far after s t is, where s is at most t
unfoldable pub elapsed : ℤ → ℤ → ℕ
elapsed s t = nat_abs (t -ℤ s)

-- z in offset binary: its distance from -b, the least of the numbers that are meant
unfoldable pub ordinal : ℕ → ℤ → ℕ
ordinal b (pos n) = b + n
ordinal b (negsuc n) = b - suc n
