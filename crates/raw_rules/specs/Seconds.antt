-- 32-bit seconds with microseconds to a count of 256 a second, as document 002 tells.
use Rattle.std.specs.Prelude.{ℕ, ◌+◌, ◌*◌, cond, leb, eqb}
use Rattle.base.specs.Rounding.{round_down}
use Rattle.rules.specs.Answer.{Answer, answer, unless}

-- "24 microseconds over 999,999"
abbrev pub largest_microsecond : ℕ
largest_microsecond = 999_999

-- "subtick (512×us + 1,000,256) / 2,000,000 rounded down"
unfoldable pub subtick_of : ℕ → ℕ
subtick_of us = round_down (512 * us + 1_000_256) 2_000_000

-- "seconds×256 + subtick", and "a subtick of 256 carries into the second": document 002's "if ( sub > 255 ) { sub = 0 TICK = TICK + 1 }"
unfoldable pub with_carry : ℕ → ℕ → ℕ
with_carry seconds subtick = cond (eqb subtick 256) ((seconds + 1) * 256 + 0) (seconds * 256 + subtick)

-- the call
unfoldable pub read_seconds : ℕ → ℕ → Answer ℕ
read_seconds seconds us = unless 24 (leb us largest_microsecond) (answer (with_carry seconds (subtick_of us)))
