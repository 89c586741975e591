-- What a name may be: its length, its bytes and its last byte.
use Prim.Native.Nat.{ℕ, ◌-◌}
use mathlib.Core.Path.{◌≡◌, refl, sym, ◌∙◌}
use mathlib.Core.Bool.{Bool, true, false, not, ◌&&◌}
use mathlib.Core.List.{List, [], ◌∷◌}
use lib.Dec.{leb}
use lib.ListN.{length, get_or}
use borrow.Author.Tests.{eq-eqb, ne_eqb, not-true, not-false}
use Rattle.std.specs.List.{list_all}
use Rattle.base.specs.Scans.{all, all_of}
use Rattle.base.proofs.Tests.{by_test, not_both, and_first, and_second}
use Rattle.kernel_rules.specs.Assignments.{in_name, is_name, longest_name}

-- every byte
pub all_listed : (p : ℕ → Bool) (l : List ℕ) → list_all p l ≡ all p l
unfolding all
all_listed p [] = refl
all_listed p (b ∷ l) = rw (all_listed p l)

-- a name; t: its length is good
module _ (w : List ℕ) (t : Bool) (e : t ≡ (leb 1 (length w) && leb (length w) longest_name)) where
  lengths : not t ≡ false → (leb 1 (length w) ≡ true) × (leb (length w) longest_name ≡ true)
  lengths n = let g = sym e ∙ not-false t n in (and_first (leb 1 (length w)) _ g, and_second (leb 1 (length w)) _ g)

  pub name_length : not t ≡ true → false ≡ is_name w
  unfolding is_name all_of
  name_length n = by_test (leb 1 (length w)) (λ y. rw y (by_test (leb (length w) longest_name) (λ z. absurd (not_both refl (rw (y, z) at (sym e ∙ not-true t n)))) (λ z. rw z))) (λ y. rw y)

  pub name_plus : not t ≡ false → get_or w (length w - 1) 0 ≡ 43 → false ≡ is_name w
  unfolding is_name all_of
  name_plus n h = rw ((lengths n).0, (lengths n).1, eq-eqb (get_or w (length w - 1) 0) 43 h) (by_test (all in_name w) (λ y. rw y) (λ f. rw f))

  pub name_good : (a : Bool) → not t ≡ false → (get_or w (length w - 1) 0 ≡ 43 → ⊥) → a ≡ all in_name w → a ≡ is_name w
  unfolding is_name all_of
  name_good a n h x = x ∙ rw ((lengths n).0, (lengths n).1, ne_eqb (get_or w (length w - 1) 0) 43 h) (by_test (all in_name w) (λ y. rw y) (λ f. rw f))
