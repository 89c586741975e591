-- What the parts of a division say of their results.
-- Assumes nothing.
use Rattle.std.specs.Prelude.{◌≡◌, ℕ, ◌+◌, ◌-◌, ◌*◌, ◌/◌, ◌%◌, ◌^◌, ◌<◌, ◌≤◌, max}

-- x divided by d: the quotient q, and the rest r
pub record Divided (x d q r : ℕ) : Type 0 where
  pub whole : q * d + r ≡ x
  pub small : r < d

-- x has n binary digits, none for 0, and n is at most w
pub record Length (w x n : ℕ) : Type 0 where
  pub enough : x < 2 ^ n
  -- and no fewer would do: x is at least 2^(n - 1), said so that it holds for 0 too
  pub needed : 2 ^ n ≤ max 1 (2 * x)
  pub most : n ≤ w

-- the number that is divided by d: the last k of the 64 digits of word are the quotient so far, the others are the part of the dividend that comes after rest
unfoldable pub dividend : ℕ → ℕ → ℕ → ℕ → ℕ
dividend d rest word k = (word % 2 ^ k * d + rest) * 2 ^ (64 - k) + word / 2 ^ k

-- the division of x by d, with k digits of the quotient known
pub record UnderWay (x d rest word k : ℕ) : Type 0 where
  pub whole : dividend d rest word k ≡ x
  pub small : rest < d
  pub most : k ≤ 64

-- the binary digit of word with the weight 2^k
unfoldable pub digit_at : ℕ → ℕ → ℕ
digit_at word k = word / 2 ^ k % 2

-- the number that became y when 2^63 - d was added to it
unfoldable pub lowered : ℕ → ℕ → ℕ
lowered d y = y + d - 2 ^ 63

-- y is a number below 2 d, with 2^63 - d added: so y is 2^63 or more exactly where the number is d or more
pub record Raised (d y : ℕ) : Type 0 where
  -- nothing is cut off by the - in lowered
  pub exact : y + d ≡ lowered d y + 2 ^ 63
  pub below : lowered d y < d + d
