-- A chain of capped steps: to cap on the way changes nothing at the end.
-- Assumes nothing.
use mathlib.Core.Path.{◌≡◌}
use mathlib.Core.Logic.{⊎_elim}
use Prim.Native.Nat.{ℕ, ◌+◌, ◌*◌, min}
use native.Mathlib.Nat.{eq-zero-or-pos, mul-zero, mul-le-mul_right, le-mul_of_pos_right, min-eq_left, min-eq_right, le_of_lt}
use native.Mathlib.Omega.{arith}
use borrow.Author.Tests.{leb-true, leb-false}
use lib.Dec.{leb}
use Rattle.base.proofs.Tests.{by_test}

pub capped_mul_add : (a q c cap : ℕ) → min (min a cap * q + c) cap ≡ min (a * q + c) cap
capped_mul_add a q c cap =
    by_test (leb a cap) (λ t. rw (min-eq_left (leb-true a cap t)))
    (λ f.
    let over = leb-false a cap f in
    rw (min-eq_right (le_of_lt over))
    (⊎_elim (λ z. rw z (omega (arith, mul-zero a, mul-zero cap)))
    (λ some. omega (arith, le-mul_of_pos_right {m = q} cap some, mul-le-mul_right {m = cap} {n = a} q (le_of_lt over))) (eq-zero-or-pos q)))

pub capped_mul : (a q cap : ℕ) → min (min a cap * q) cap ≡ min (a * q) cap
capped_mul a q cap = omega (arith, capped_mul_add a q 0 cap)
