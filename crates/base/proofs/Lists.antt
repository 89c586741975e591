-- Lists, as a loop meets them; a test of every element; the product.
use Prim.Native.Nat.{ℕ, zero, suc, ◌+◌, ◌≤◌, ◌<◌}
use mathlib.Core.Path.{◌≡◌, refl}
use mathlib.Core.Bool.{Bool, true}
use mathlib.Core.List.{List, [], ◌∷◌, ◌++◌}
use lib.Dec.{leb}
use lib.ListN.{length, get_or, drop}
use lib.Seq.{drop-cons}
use borrow.Author.Tests.{leb-true}
use native.Mathlib.Nat.{mul-pos}
use native.Mathlib.Numerals.{add-one}
use native.Mathlib.Omega.{arith}
use Rattle.base.specs.Scans.{all, product}
use Rattle.base.proofs.Tests.{and_both, and_first, and_second}

-- one step of a walk along a list
pub drop_next {ℓ} : {A : Type ℓ} (s : List A) (k : ℕ) (d : A) → k < length s → drop k s ≡ (get_or s k d ∷ drop (k + 1) s)
drop_next s k d h = rw (add-one, drop-cons s k d h)

module _ (p : ℕ → Bool) where
  pub all_append : (s t : List ℕ) → all p s ≡ true → all p t ≡ true → all p (s ++ t) ≡ true
  unfolding all
  all_append [] t h k = k
  all_append (x ∷ s) t h k = and_both (and_first (p x) (all p s) h) (all_append s t (and_second (p x) (all p s) h) k)

  pub all_cons : (x : ℕ) (s : List ℕ) → p x ≡ true → all p s ≡ true → all p (x ∷ s) ≡ true
  unfolding all
  all_cons x s h k = and_both h k

  pub all_head : (x : ℕ) (s : List ℕ) → all p (x ∷ s) ≡ true → p x ≡ true
  unfolding all
  all_head x s h = and_first (p x) (all p s) h

  pub all_tail : (x : ℕ) (s : List ℕ) → all p (x ∷ s) ≡ true → all p s ≡ true
  unfolding all
  all_tail x s h = and_second (p x) (all p s) h

  -- the element at i
  pub all_get_d : (s : List ℕ) (i : ℕ) → all p s ≡ true → i < length s → p (get_or s i 0) ≡ true
  all_get_d [] i h l = absurd (omega arith)
  all_get_d (x ∷ s) zero h l = all_head x s h
  all_get_d (x ∷ s) (suc i) h l = all_get_d s i (all_tail x s h) (omega arith)

-- a weaker test
pub all_weaker : (p q : ℕ → Bool) → ((x : ℕ) → p x ≡ true → q x ≡ true) → (s : List ℕ) → all p s ≡ true → all q s ≡ true
unfolding all
all_weaker p q f [] h = refl
all_weaker p q f (x ∷ s) h = and_both (f x (and_first (p x) (all p s) h)) (all_weaker p q f s (and_second (p x) (all p s) h))

pub all_drop_one : (p : ℕ → Bool) (s : List ℕ) → all p s ≡ true → all p (drop 1 s) ≡ true
all_drop_one p [] h = h
all_drop_one p (x ∷ s) h = all_tail p x s h

-- the product of numbers of at least 1
pub product_pos : (ms : List ℕ) → all (λ m. leb 1 m) ms ≡ true → 1 ≤ product ms
unfolding product
product_pos [] h = omega arith
product_pos (m ∷ ms) h = mul-pos (leb-true 1 m (all_head _ m ms h)) (product_pos ms (all_tail _ m ms h))
