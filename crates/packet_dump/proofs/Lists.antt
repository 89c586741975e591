-- Lists joined and cut.
use Prim.Native.Nat.{ℕ, zero, suc}
use mathlib.Core.Path.{◌≡◌, refl, sym, ◌∙◌}
use mathlib.Core.Bool.{Bool, true}
use mathlib.Core.List.{List, [], ◌∷◌, ◌++◌, flatten, append_assoc}
use lib.ListN.{length, take, drop}
use lib.Seq.{take-append_seam, drop-append_seam}
use Rattle.base.specs.Scans.{all}
use Rattle.base.proofs.Lists.{all_cons, all_head, all_tail}

pub flatten_append : (xs ys : List (List ℕ)) → flatten (xs ++ ys) ≡ flatten xs ++ flatten ys
unfolding flatten
flatten_append [] ys = refl
flatten_append (x ∷ xs) ys = rw (flatten_append xs ys, append_assoc)

module _ (p : ℕ → Bool) where
  pub all_take : (n : ℕ) (s : List ℕ) → all p s ≡ true → all p (take n s) ≡ true
  unfolding all
  all_take zero s h = refl
  all_take (suc n) [] h = refl
  all_take (suc n) (x ∷ s) h = all_cons p x (take n s) (all_head p x s h) (all_take n s (all_tail p x s h))

  pub all_drop : (n : ℕ) (s : List ℕ) → all p s ≡ true → all p (drop n s) ≡ true
  all_drop zero s h = h
  all_drop (suc n) [] h = h
  all_drop (suc n) (x ∷ s) h = all_drop n s (all_tail p x s h)

  -- of two lists joined, each
  pub all_first : (s t : List ℕ) → all p (s ++ t) ≡ true → all p s ≡ true
  all_first s t h = rw take-append_seam at (all_take (length s) (s ++ t) h)

  pub all_second : (s t : List ℕ) → all p (s ++ t) ≡ true → all p t ≡ true
  all_second s t h = rw drop-append_seam at (all_drop (length s) (s ++ t) h)

-- lists joined are equal where their first parts are equally long
module _ (p q s t : List ℕ) (e : p ++ s ≡ q ++ t) (l : length p ≡ length q) where
  pub same_first : p ≡ q
  same_first = sym (take-append_seam p s) ∙ rw (e, l) (take-append_seam q t)

  pub same_second : s ≡ t
  same_second = sym (drop-append_seam p s) ∙ rw (e, l) (drop-append_seam q t)
