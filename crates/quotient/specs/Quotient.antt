-- A quotient that may be too large for a word.
-- Assumes nothing.
use Rattle.std.specs.Prelude.{ℕ, ◌^◌, cond, ◌==◌, nat_lt, Option, Some, None}

-- q as the quotient by d: none where d is 0, and where q does not fit 64 bits
unfoldable pub fit : ℕ → ℕ → Option ℕ
fit d q = cond (d == 0) None (cond (nat_lt q (2 ^ 64)) (Some q) None)
