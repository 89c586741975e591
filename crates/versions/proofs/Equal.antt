-- The tests of specs/Equal.antt hold exactly where the two are equal.
use mathlib.Core.Path.{◌≡◌, refl, ap}
use mathlib.Core.Bool.{Bool, true, false}
use mathlib.Core.List.{List, [], ◌∷◌}
use lib.IntN.{ℤ, pos, negsuc}
use borrow.Author.Tests.{eqb-true, eq-eqb}
use Rattle.base.proofs.Tests.{by_test, and_both, and_first, and_second, not_both}
use Rattle.versions.specs.Equal.{eq_z, same}

pub eq_z_true : (a b : ℤ) → eq_z a b ≡ true → a ≡ b
unfolding eq_z
eq_z_true (pos a) (pos b) h = ap pos (eqb-true a b h)
eq_z_true (pos a) (negsuc b) h = absurd (not_both h refl)
eq_z_true (negsuc a) (pos b) h = absurd (not_both h refl)
eq_z_true (negsuc a) (negsuc b) h = ap negsuc (eqb-true a b h)

eq_z_self : (a : ℤ) → eq_z a a ≡ true
unfolding eq_z
eq_z_self (pos a) = eq-eqb a a refl
eq_z_self (negsuc a) = eq-eqb a a refl

pub eq_eq_z : (a b : ℤ) → a ≡ b → eq_z a b ≡ true
eq_eq_z a b h = rw h (eq_z_self b)

pub ne_eq_z : (a b : ℤ) → (a ≡ b → ⊥) → eq_z a b ≡ false
ne_eq_z a b d = by_test (eq_z a b) (λ t. absurd (d (eq_z_true a b t))) (λ f. f)

module _ {A : Type 0} (equal : A → A → Bool) where
  pub same_true : ((a b : A) → equal a b ≡ true → a ≡ b) → (s r : List A) → same equal s r ≡ true → s ≡ r
  unfolding same
  same_true sound [] [] h = refl
  same_true sound [] (b ∷ bs) h = absurd (not_both h refl)
  same_true sound (a ∷ s) [] h = absurd (not_both h refl)
  same_true sound (a ∷ s) (b ∷ r) h = rw (sound a b (and_first (equal a b) _ h), same_true sound s r (and_second (equal a b) _ h))

  same_self : ((a : A) → equal a a ≡ true) → (s : List A) → same equal s s ≡ true
  unfolding same
  same_self whole [] = refl
  same_self whole (a ∷ s) = and_both (whole a) (same_self whole s)

  pub same_is : ((a : A) → equal a a ≡ true) → (s r : List A) → s ≡ r → same equal s r ≡ true
  same_is whole s r h = rw h (same_self whole r)
