-- A word whose first digits are still to be divided and whose last are the quotient's: what a turn does to it.
-- Assumes nothing.
use Rattle.std.proofs.Common.{◌≡◌, ℕ, suc, ◌+◌, ◌*◌, ◌/◌, ◌%◌, ◌^◌, ◌<◌, sym, ap, mod-lt, mul_assoc, add-mul, div-add-mod', mul_left_comm, arith, pow_pos, shr-shr}
use native.Mathlib.Nat.{pow-succ', mul-mod_left}
use lib.Pow.{high, low, shl-shr, mod-pow-add}

-- a word of j + k digits loses its first k where it is shifted by so many
pub shifted_left : (a j k : ℕ) → a * 2 ^ k % 2 ^ (j + k) ≡ a % 2 ^ j * 2 ^ k
shifted_left a j k = omega (arith, mod-pow-add (a * 2 ^ k) j k, ap (λ (x : ℕ). x % 2 ^ j * 2 ^ k) (shl-shr a k), mul-mod_left a (2 ^ k))

-- of the digits of w the last k are the quotient's so far; its next digit, q₁, comes in below, and the j digits in front of them are still to come
module _ (w q₁ j k : ℕ) (digit : q₁ < 2) where
  moved : w % 2 ^ (j + k) * 2 + q₁ ≡ w / 2 ^ k % 2 ^ j * 2 ^ suc k + (w % 2 ^ k * 2 + q₁)
  moved =
      let a = w / 2 ^ k % 2 ^ j in
      omega (arith, mod-pow-add w j k, ap (λ (x : ℕ). a * x) (pow-succ' 2 k), mul_left_comm a 2 (2 ^ k))

  known_lt : w % 2 ^ k * 2 + q₁ < 2 ^ suc k
  known_lt = omega (arith, mod-lt w (pow_pos k), pow-succ' 2 k, digit)

  pub to_come : (w % 2 ^ (j + k) * 2 + q₁) / 2 ^ suc k ≡ w / 2 ^ k % 2 ^ j
  to_come = rw moved (high (w / 2 ^ k % 2 ^ j) (suc k) known_lt)

  known : (w % 2 ^ (j + k) * 2 + q₁) % 2 ^ suc k ≡ w % 2 ^ k * 2 + q₁
  known = rw moved (low (w / 2 ^ k % 2 ^ j) (suc k) known_lt)

  -- the digit in front of those to come goes to the rest r; r₁ is the rest afterwards
  pub turn_at : (d X r r₁ : ℕ) → (w % 2 ^ k * d + r) * 2 ^ suc j + w / 2 ^ k ≡ X → q₁ * d + r₁ ≡ r + r + w / 2 ^ (k + j) → ((w % 2 ^ (j + k) * 2 + q₁) % 2 ^ suc k * d + r₁) * 2 ^ j + (w % 2 ^ (j + k) * 2 + q₁) / 2 ^ suc k ≡ X
  turn_at d X r r₁ so_far by =
      let b = w % 2 ^ k in
      let y = b * d + r in
      let t = w / 2 ^ (k + j) in
      let twice : (b * 2 + q₁) * d + r₁ ≡ y + y + t = omega (arith, add-mul (b * 2) q₁ d, mul_assoc b 2 d, mul_left_comm b 2 d) in
      let digits : t * 2 ^ j + w / 2 ^ k % 2 ^ j ≡ w / 2 ^ k = rw (sym (shr-shr w k j)) (div-add-mod' (w / 2 ^ k) (2 ^ j)) in
      rw known (rw to_come (rw twice (omega (arith, so_far, digits, add-mul (y + y) t (2 ^ j), add-mul y y (2 ^ j), ap (λ (x : ℕ). y * x) (pow-succ' 2 j), mul_left_comm y 2 (2 ^ j)))))
