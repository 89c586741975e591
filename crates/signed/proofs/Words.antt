-- A distance from the least i64, and a sum of an i64 and a word, by the bits of the two.
use Prim.Native.Nat.{ℕ, suc, ◌+◌, ◌-◌, ◌%◌, ◌^◌, ◌≤◌, ◌<◌}
use mathlib.Core.Path.{◌≡◌, ◌∙◌}
use lib.IntN.{ℤ, pos, negsuc, nat_abs, ◌-ℤ◌}
use lib.Dec.{ltb}
use lib.Signed.{mag}
use mir.Syntax.{w64}
use mir.Val.{to_z, of_z}
use mir.Facts.{to_z_pos, to_z-neg}
use native.Mathlib.Nat.{mod-eq_of_lt, mod-eq-sub-mod}
use native.Mathlib.Omega.{arith}
use borrow.Author.Tests.{ltb-true, ltb-false, le-ltb}
use Rattle.base.specs.Signed.{later, ordinal}
use Rattle.base.proofs.Tests.{by_test}

pub from_least : (x : ℤ) → mag x < 2 ^ 63 → nat_abs (x -ℤ negsuc (2 ^ 63 - 1)) ≡ ordinal (2 ^ 63) x
unfolding ordinal
from_least (pos n) h = omega arith
from_least (negsuc n) h = rw (le-ltb (2 ^ 63) (suc n) (omega arith))

wraps : (n : ℕ) → 2 ^ 64 ≤ n → n < 2 ^ 64 + 2 ^ 64 → n % 2 ^ 64 ≡ n - 2 ^ 64
wraps n h l = mod-eq-sub-mod h ∙ mod-eq_of_lt (omega arith)

-- a word n of which the first digit is 1 is the number 2^64 - n below 0
below : (n m : ℕ) → n + suc m ≡ 2 ^ 64 → m < 2 ^ 63 → to_z w64 n ≡ negsuc m
below n m e h = let f : n ≡ 2 ^ 64 - suc m = omega arith in rw f (to_z-neg w64 m h)

pub sum_later : (t : ℤ) (d : ℕ) → mag t < 2 ^ 63 → d < 2 ^ 64 → mag (later t d) < 2 ^ 63 → to_z w64 ((of_z w64 t + d) % 2 ^ 64) ≡ later t d
unfolding later
sum_later (pos m) d s f h = rw (mod-eq_of_lt {n = m + d} {m = 2 ^ 64} (omega arith)) (to_z_pos w64 {n = m + d} (omega arith))
sum_later (negsuc m) d s f h =
    by_test (ltb d (suc m))
    (λ l.
    let small = ltb-true d (suc m) l in
    rw (l, mod-eq_of_lt {n = 2 ^ 64 - suc m + d} {m = 2 ^ 64} (omega arith)) (below (2 ^ 64 - suc m + d) (suc m - suc d) (omega arith) (omega arith)))
    (λ g.
    let large = ltb-false d (suc m) g in
    let near : d - suc m < 2 ^ 63 = rw g at h in
    let rest : 2 ^ 64 - suc m + d - 2 ^ 64 ≡ d - suc m = omega arith in
    rw (g, wraps (2 ^ 64 - suc m + d) (omega arith) (omega arith), rest) (to_z_pos w64 {n = d - suc m} near))

pub sum_ordinal : (k : ℕ) → k < 2 ^ 64 → ordinal (2 ^ 63) (to_z w64 ((2 ^ 63 + k) % 2 ^ 64)) ≡ k
unfolding ordinal
sum_ordinal k h =
    by_test (ltb k (2 ^ 63))
    (λ l.
    let small = ltb-true k (2 ^ 63) l in
    rw (mod-eq_of_lt {n = 2 ^ 63 + k} {m = 2 ^ 64} (omega arith), below (2 ^ 63 + k) (2 ^ 63 - 1 - k) (omega arith) (omega arith)) (omega arith))
    (λ g.
    let large = ltb-false k (2 ^ 63) g in
    rw (wraps (2 ^ 63 + k) (omega arith) (omega arith), to_z_pos w64 {n = 2 ^ 63 + k - 2 ^ 64} (omega arith)) (omega arith))
