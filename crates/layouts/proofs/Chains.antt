-- What the code's chains give, in the words of the definitions.
use Prim.Native.Nat.{ℕ, zero, suc, ◌*◌, ◌≤◌, min}
use mathlib.Core.Path.{◌≡◌, refl, ◌∙◌}
use mathlib.Core.Bool.{Bool, true}
use mathlib.Core.List.{List, [], ◌∷◌}
use native.Mathlib.Nat.{one-mul, mul-one, mul_assoc}
use native.Mathlib.Omega.{arith}
use lib.Dec.{leb}
use borrow.Author.Tests.{le-leb, leb-true}
use Rattle.std.specs.Prelude.{All, IsTrue, ◌↔◌, fold}
use Rattle.base.specs.Scans.{all, product}
use Rattle.base.proofs.Tests.{same_test, and_both, and_first, and_second}
use Rattle.wide.proofs.Capped.{capped_mul}

every : (k : ℕ) (xs : List ℕ) → All (λ x. x ≤ k) xs → all (λ x. leb x k) xs ≡ true
unfolding all
every k [] h = refl
every k (x ∷ xs) h = and_both (le-leb x k (h 0 0 (omega arith))) (every k xs (λ i d l. h (suc i) d (omega arith)))

each : (k : ℕ) (xs : List ℕ) → all (λ x. leb x k) xs ≡ true → All (λ x. x ≤ k) xs
unfolding all
each k [] t i d l = absurd (omega arith)
each k (x ∷ xs) t zero d l = leb-true x k (and_first (leb x k) _ t)
each k (x ∷ xs) t (suc i) d l = each k xs (and_second (leb x k) _ t) i d (omega arith)

pub all_at_most : (b : Bool) (k : ℕ) (xs : List ℕ) → (IsTrue b ↔ All (λ x. x ≤ k) xs) → b ≡ all (λ x. leb x k) xs
all_at_most b k xs h = same_test b (all (λ x. leb x k) xs) (λ t. every k xs (h.0 t)) (λ t. h.1 (each k xs t))

capped_from : (cap a : ℕ) (xs : List ℕ) → fold (λ a x. min (a * x) cap) (min a cap) xs ≡ min (a * product xs) cap
unfolding product
capped_from cap a [] = rw mul-one
capped_from cap a (x ∷ xs) = rw capped_mul (capped_from cap (a * x) xs ∙ rw mul_assoc)

pub product_capped : (cap : ℕ) (xs : List ℕ) → 1 ≤ cap → fold (λ a x. min (a * x) cap) 1 xs ≡ min (product xs) cap
product_capped cap xs h = let e : 1 ≡ min 1 cap = omega arith in rw e (capped_from cap 1 xs ∙ rw one-mul)
