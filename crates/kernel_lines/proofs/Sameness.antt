-- Two runs of bytes are the same exactly where they are equal lists.
use Prim.Native.Nat.{ℕ}
use mathlib.Core.Path.{◌≡◌, refl, sym, ap}
use mathlib.Core.Bool.{true, false}
use mathlib.Core.List.{List, [], ◌∷◌}
use lib.Dec.{eqb}
use lib.ListN.{length}
use borrow.Author.Tests.{eq-eqb, eqb-true}
use Rattle.base.proofs.Tests.{by_test, not_both, and_first, and_second}
use Rattle.std.specs.Cmp.Lexicographic.{pointwise}
use Rattle.kernel_rules.specs.Lines.{same}

pub same_refl : (s : List ℕ) → same s s ≡ true
unfolding same
same_refl [] = refl
same_refl (x ∷ s) = rw (eq-eqb x x refl, same_refl s)

pub same_is : (s t : List ℕ) → same s t ≡ true → s ≡ t
unfolding same
same_is [] [] h = refl
same_is [] (y ∷ t) h = absurd (not_both h refl)
same_is (x ∷ s) [] h = absurd (not_both h refl)
same_is (x ∷ s) (y ∷ t) h = rw (eqb-true x y (and_first (eqb x y) (same s t) h), same_is s t (and_second (eqb x y) (same s t) h))

pub is_same_lem : (s t : List ℕ) → s ≡ t → same s t ≡ true
is_same_lem s t e = rw e (same_refl t)

pub is_not_same : (s t : List ℕ) → (s ≡ t → ⊥) → same s t ≡ false
is_not_same s t f = by_test (same s t) (λ h. absurd (f (same_is s t h))) (λ h. h)

pub not_same_is : (s t : List ℕ) → same s t ≡ false → s ≡ t → ⊥
not_same_is s t h e = not_both (is_same_lem s t e) h

-- `==` on bytes
pub pointwise_same : (s t : List ℕ) → pointwise eqb s t ≡ same s t
unfolding same
pointwise_same [] [] = refl
pointwise_same [] (y ∷ t) = refl
pointwise_same (x ∷ s) [] = refl
pointwise_same (x ∷ s) (y ∷ t) = rw (pointwise_same s t)

-- bytes of another length are others
pub other_length : (s t : List ℕ) → (length s ≡ length t → ⊥) → false ≡ same s t
other_length s t f = sym (is_not_same s t (λ e. f (ap length e)))
