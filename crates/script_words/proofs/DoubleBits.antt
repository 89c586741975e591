-- Bits that are those of one double.
use Prim.Native.Nat.{ℕ, ◌*◌, ◌^◌, ◌%◌, ◌/◌, ◌≤◌}
use mathlib.Core.Path.{◌≡◌, refl}
use mathlib.Core.Bool.{not}
use native.Mathlib.Omega.{arith}
use borrow.Author.Tests.{eqb-false, ne_eqb}
use lib.Dec.{T, eqb}
use lib.Ieee.{binary64, nan_bits}
use Rattle.base.proofs.Tests.{by_test, and_out_first, and_out_second}

-- a pattern that is at most infinity's, the sign aside, is no NaN's
pub up_to_infinity : (b : ℕ) → b % 2 ^ 63 ≤ 2047 * 2 ^ 52 → T (not (nan_bits binary64 b))
unfolding nan_bits
up_to_infinity b h =
    by_test (eqb (b % 2 ^ 52) 0)
    (λ t. rw (and_out_second (eqb (b % 2 ^ 63 / 2 ^ 52) 2047) {b = not (eqb (b % 2 ^ 52) 0)} (rw t refl)) tt)
    (λ f. rw (and_out_first {a = eqb (b % 2 ^ 63 / 2 ^ 52) 2047} (not (eqb (b % 2 ^ 52) 0)) (ne_eqb _ _ (low (eqb-false _ _ f)))) tt)
  where
    low : (b % 2 ^ 52 ≡ 0 → ⊥) → b % 2 ^ 63 / 2 ^ 52 ≡ 2047 → ⊥
    low f e = f (omega arith)
