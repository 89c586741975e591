-- Facts of every number below a bound, and of one more.
use Prim.Native.Nat.{ℕ, ◌+◌, ◌≤◌, ◌<◌}
use mathlib.Core.Path.{◌≡◌, sym, subst}
use borrow.Author.Tests.{eqb-true, eqb-false}
use native.Mathlib.Omega.{arith}
use lib.Dec.{eqb}
use Rattle.base.proofs.Tests.{by_test}

module _ (Q : ℕ → Type 0) (k : ℕ) where
  pub below_next : ((j : ℕ) → j < k → Q j) → Q k → (j : ℕ) → j < k + 1 → Q j
  below_next f q j h = by_test (eqb j k) (λ t. subst Q (sym (eqb-true j k t)) q) (λ n. f j (less (eqb-false j k n)))
    where
      less : (j ≡ k → ⊥) → j < k
      less d = omega arith

  -- the same from k on
  pub from_next : (b : ℕ) → ((j : ℕ) → k + 1 ≤ j → j < b → Q j) → Q k → (j : ℕ) → k ≤ j → j < b → Q j
  from_next b f q j x y = by_test (eqb j k) (λ t. subst Q (sym (eqb-true j k t)) q) (λ n. f j (more (eqb-false j k n)) y)
    where
      more : (j ≡ k → ⊥) → k + 1 ≤ j
      more d = omega arith
