-- Whether two times, and two lists, are equal: tests that compute.
use Rattle.std.specs.Prelude.{Bool, true, false, ◌&&◌, List, [], ◌∷◌, eqb, ℤ, pos, negsuc}

unfoldable pub eq_z : ℤ → ℤ → Bool
eq_z (pos a) (pos b) = eqb a b
eq_z (pos a) (negsuc b) = false
eq_z (negsuc a) (pos b) = false
eq_z (negsuc a) (negsuc b) = eqb a b

-- two lists, by a test of their elements
unfoldable pub same : {A : Type 0} → (A → A → Bool) → List A → List A → Bool
same equal [] [] = true
same equal [] (b ∷ bs) = false
same equal (a ∷ s) [] = false
same equal (a ∷ s) (b ∷ r) = equal a b && same equal s r
