-- Numbers kept up to a cap: each operation gives what it would give without one.
use Prim.Native.Nat.{ℕ, zero, suc, ◌+◌, ◌*◌, ◌≤◌, ◌<◌, min}
use mathlib.Core.Path.{◌≡◌}
use mathlib.Core.List.{List}
use lib.Dec.{leb}
use lib.ListN.{length, get_or, drop, drop_of_length-le}
use borrow.Author.Tests.{leb-true, leb-false}
use native.Mathlib.Nat.{mul_assoc, mul-one, mul-zero, mul-suc, min-eq_left, min-eq_right, mul-le-mul_right}
use native.Mathlib.Omega.{arith}
use Rattle.base.specs.Scans.{product}
use Rattle.base.proofs.Lists.{drop_next}
use Rattle.base.proofs.Tests.{by_test}

-- above the cap a product with a number from 1 on stays there
grows : (a m t c : ℕ) → c < a → min (c * m + t) c ≡ min (a * m + t) c
grows a zero t c h = rw (mul-zero, mul-zero)
grows a (suc m) t c h = let l : c * suc m ≤ a * suc m = mul-le-mul_right (suc m) (omega arith) in omega (arith, mul-suc c m)

pub cap_mul_add : (a m t c : ℕ) → min (min a c * m + t) c ≡ min (a * m + t) c
cap_mul_add a m t c =
    by_test (leb a c)
    (λ y. rw (min-eq_left (leb-true a c y)))
    (λ n. rw (min-eq_right {n = c} {m = a} (omega (arith, leb-false a c n)), grows a m t c (leb-false a c n)))

pub cap_mul : (a m c : ℕ) → min (min a c * m) c ≡ min (a * m) c
cap_mul a m c = omega (arith, cap_mul_add a m 0 c)

-- the loop that multiplies by the rest of a list
pub times_next : (s : List ℕ) (a b i c w : ℕ) → i < length s → b ≡ min (a * get_or s i 0) c → w ≡ min (a * product (drop i s)) c → w ≡ min (b * product (drop (i + 1) s)) c
unfolding product
times_next s a b i c w h e f = rw (e, cap_mul, mul_assoc) (rw (drop_next s i 0 h) at f)

pub times_done : (s : List ℕ) (a i c w : ℕ) → length s ≤ i → a ≤ c → w ≡ min (a * product (drop i s)) c → a ≡ w
unfolding product
times_done s a i c w h l e = omega (arith, rw (drop_of_length-le s h, mul-one) at e)
