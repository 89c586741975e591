-- Times in order, by their signs.
use Prim.Native.Nat.{ℕ, zero, suc, ◌+◌, ◌-◌, ◌≤◌}
use native.Mathlib.Omega.{arith}
use mathlib.Core.Path.{◌≡◌, refl}
use mathlib.Core.Bool.{true, false}
use borrow.Author.Tests.{ltb-true, ltb-false, leb-true, leb-false, le-leb, le-ltb}
use lib.Dec.{ltb}
use lib.IntN.{ℤ, pos, negsuc, nat_abs, sub_ℕ}
use lib.Signed.{le_z, lt_z}
use Rattle.base.specs.Signed.{later, elapsed}
use Rattle.base.proofs.Tests.{by_test, not_both}

ruleset tests = (ltb-true, ltb-false, leb-true, leb-false)

-- a time that is not after u is at or before t where u is
pub not_later : (u v t : ℤ) → lt_z u v ≡ false → le_z u t ≡ true → le_z v t ≡ true
not_later (pos u) (pos v) (pos t) h k = le-leb v t (omega (arith, tests))
not_later (pos u) v (negsuc t) h k = absurd (not_both k refl)
not_later (pos u) (negsuc v) (pos t) h k = refl
not_later (negsuc u) (pos v) t h k = absurd (not_both refl h)
not_later (negsuc u) (negsuc v) (pos t) h k = refl
not_later (negsuc u) (negsuc v) (negsuc t) h k = le-leb t v (omega (arith, tests))

-- the size of a - b
size_from : (a b : ℕ) → b ≤ a → nat_abs (sub_ℕ a b) ≡ a - b
size_from a b h = rw (le-ltb a b h)

-- where d after s is at or before t, at least d has elapsed
pub later_elapsed : (s t : ℤ) (d : ℕ) → le_z (later s d) t ≡ true → d ≤ elapsed s t
unfolding later elapsed
later_elapsed (pos zero) (pos t) d h = omega (arith, tests)
later_elapsed (pos (suc s)) (pos t) d h = let b : suc s + d ≤ t = leb-true _ _ h in omega (arith, size_from t (suc s) (omega arith))
later_elapsed (pos s) (negsuc t) d h = absurd (not_both h refl)
later_elapsed (negsuc s) (pos t) d h =
    by_test (ltb d (suc s))
    (λ b. omega (arith, tests))
    (λ b. let k : d - suc s ≤ t = leb-true _ _ (rw b at h) in omega (arith, tests))
later_elapsed (negsuc s) (negsuc t) d h =
    by_test (ltb d (suc s))
    (λ b. let k : t ≤ suc s - suc d = leb-true _ _ (rw b at h) in omega (arith, tests, size_from (suc s) (suc t) (omega (arith, tests))))
    (λ b. absurd (not_both (rw b at h) refl))
