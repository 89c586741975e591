-- The laws of rounding: what `round_down` and `round_up` are, without a division. For a divisor d of at least 1
--     down_at_least, at_least_down, leb_down     k ≤ round_down x d exactly where k * d ≤ x
--     up_at_most, at_most_up, up_leb             round_up x d ≤ k exactly where x ≤ k * d
--     down_below, down_above, down_unique        round_down x d is the q with q * d ≤ x < (q + 1) * d
--     up_above, up_below, up_unique              round_up x d is the q with x ≤ q * d < x + d
--     down_division, up_exact, up_more           both from a quotient and a rest
--     down_grows, up_grows, down_up              both grow with x, and the one is at most the other
--     down_base                                  a quotient that has no room in one digit of a base
-- Assumes nothing.
use mathlib.Core.Path.{◌≡◌}
use Prim.Native.Nat.{ℕ, ◌+◌, ◌-◌, ◌*◌, ◌/◌, ◌≤◌, ◌<◌}
use native.Mathlib.Nat.{le_trans, mul_comm, add-mul, one-mul, mul-le-mul_right, le_of_mul-le-mul_right, div-mul-le_self, lt-div-mul-add, le-div_iff_mul-le, div-lt_iff_lt-mul, div-eq_of_lt-le}
use native.Mathlib.Omega.{arith}
use lib.Dec.{leb}
use Rattle.base.specs.Rounding.{round_down, round_up}
use Rattle.base.proofs.Tests.{leb_same}

pub down_at_least : (x d k : ℕ) → 0 < d → k * d ≤ x → k ≤ round_down x d
unfolding round_down
down_at_least x d k pos h = (le-div_iff_mul-le {k = d} {x = k} {y = x} pos).1 h

pub at_least_down : (x d k : ℕ) → k ≤ round_down x d → k * d ≤ x
unfolding round_down
at_least_down x d k h = le_trans (mul-le-mul_right d h) (div-mul-le_self x d)

pub leb_down : (x d k : ℕ) → 0 < d → leb k (round_down x d) ≡ leb (k * d) x
leb_down x d k pos = leb_same k (round_down x d) (k * d) x (at_least_down x d k) (down_at_least x d k pos)

pub down_below : (x d : ℕ) → round_down x d * d ≤ x
down_below x d = at_least_down x d (round_down x d) (omega arith)

pub down_above : (x d : ℕ) → 0 < d → x < (round_down x d + 1) * d
unfolding round_down
down_above x d pos = omega (arith, lt-div-mul-add {a = x} {b = d} pos, add-mul (x / d) 1 d, one-mul d)

pub down_unique : (x d q : ℕ) → q * d ≤ x → x < (q + 1) * d → round_down x d ≡ q
unfolding round_down
down_unique x d q h k = div-eq_of_lt-le d h k

pub down_division : (x d q r : ℕ) → q * d + r ≡ x → r < d → round_down x d ≡ q
down_division x d q r e h = down_unique x d q (omega arith) (omega (arith, add-mul q 1 d, one-mul d))

pub down_grows : (x y d : ℕ) → 0 < d → x ≤ y → round_down x d ≤ round_down y d
down_grows x y d pos h = down_at_least y d (round_down x d) pos (le_trans (down_below x d) h)

pub down_base : (W hi lo d : ℕ) → 0 < d → d ≤ hi → W ≤ round_down (hi * W + lo) d
down_base W hi lo d pos h = down_at_least (hi * W + lo) d W pos (omega (arith, mul_comm W d, mul-le-mul_right {m = d} {n = hi} W h))

pub up_at_most : (x d k : ℕ) → 0 < d → x ≤ k * d → round_up x d ≤ k
unfolding round_up
up_at_most x d k pos h =
    let less : (x + (d - 1)) / d < k + 1 = (div-lt_iff_lt-mul {k = d} {x = x + (d - 1)} {y = k + 1} pos).1 (omega (arith, add-mul k 1 d, one-mul d)) in
    omega arith

pub at_most_up : (x d k : ℕ) → 0 < d → round_up x d ≤ k → x ≤ k * d
unfolding round_up
at_most_up x d k pos h =
    let less : x + (d - 1) < (k + 1) * d = (div-lt_iff_lt-mul {k = d} {x = x + (d - 1)} {y = k + 1} pos).0 (omega arith) in
    omega (arith, add-mul k 1 d, one-mul d)

pub up_leb : (x d k : ℕ) → 0 < d → leb (round_up x d) k ≡ leb x (k * d)
up_leb x d k pos = leb_same (round_up x d) k x (k * d) (at_most_up x d k pos) (up_at_most x d k pos)

pub up_above : (x d : ℕ) → 0 < d → x ≤ round_up x d * d
up_above x d pos = at_most_up x d (round_up x d) pos (omega arith)

pub up_below : (x d : ℕ) → 0 < d → round_up x d * d < x + d
unfolding round_up
up_below x d pos = omega (arith, div-mul-le_self (x + (d - 1)) d)

pub up_unique : (x d q : ℕ) → x ≤ q * d → q * d < x + d → round_up x d ≡ q
unfolding round_up
up_unique x d q h k = div-eq_of_lt-le d (omega arith) (omega (arith, add-mul q 1 d, one-mul d))

pub up_exact : (x d q : ℕ) → 0 < d → q * d ≡ x → round_up x d ≡ q
up_exact x d q pos e = up_unique x d q (omega arith) (omega arith)

pub up_more : (x d q r : ℕ) → q * d + r ≡ x → 0 < r → r < d → round_up x d ≡ q + 1
up_more x d q r e some h = up_unique x d (q + 1) (omega (arith, add-mul q 1 d, one-mul d)) (omega (arith, add-mul q 1 d, one-mul d))

pub up_grows : (x y d : ℕ) → 0 < d → x ≤ y → round_up x d ≤ round_up y d
up_grows x y d pos h = up_at_most x d (round_up y d) pos (le_trans h (up_above y d pos))

pub down_up : (x d : ℕ) → 0 < d → round_down x d ≤ round_up x d
down_up x d pos = le_of_mul-le-mul_right (le_trans (down_below x d) (up_above x d pos)) pos
