-- The most bytes of an amount, a time or a rate with the byte after it, and of a count with its time.
use Rattle.std.specs.Prelude.{ℕ, ◌+◌}

-- 20 digits, a point, 12 places and one byte
abbrev pub longest_pointed : ℕ
longest_pointed = 34

-- and `-`
abbrev pub longest_field : ℕ
longest_field = 35

-- a count, a tab and a time
abbrev pub longest_both : ℕ
longest_both = 21 + longest_field
