-- "CLOCK is a decimal number with `-` in front of a negative one, in 64 bits": leading zeros are allowed, and `-0` is 0.
use Rattle.std.specs.Prelude.{ℕ, ◌+◌, ◌*◌, ◌-◌, ◌&&◌, cond, Option, Some, None, ℤ, List, [], ◌∷◌, pos, neg_ℤ, leb, get_or, drop}
use Rattle.rules.specs.Text.{is_digit}
use Rattle.kernel_rules.specs.Numbers.{is_minus}

-- the least number in 64 bits, without its sign
abbrev pub least : ℕ
least = 9223372036854775808

-- the number that the digits s spell behind those of n, while it is at most a limit
unfoldable pub spelled_behind : ℕ → ℕ → List ℕ → Option ℕ
spelled_behind limit n [] = Some n
spelled_behind limit n (b ∷ s) = cond (is_digit b && leb (n * 10 + (b - 48)) limit) (spelled_behind limit (n * 10 + (b - 48)) s) None

-- at least one digit
unfoldable pub spelled : ℕ → List ℕ → Option ℕ
spelled limit [] = None
spelled limit (b ∷ s) = spelled_behind limit 0 (b ∷ s)

abbrev pub below_zero : Option ℕ → Option ℤ
below_zero (Some n) = Some (neg_ℤ (pos n))
below_zero None = None

abbrev pub from_zero : Option ℕ → Option ℤ
from_zero (Some n) = Some (pos n)
from_zero None = None

unfoldable pub clock_of : List ℕ → Option ℤ
clock_of w = cond (is_minus (get_or w 0 0)) (below_zero (spelled least (drop 1 w))) (from_zero (spelled (least - 1) w))
