-- A list that begins with another, all of a list, one of a list, and the last number that passes a test which fails from some number on.
use Prim.Native.Nat.{ℕ, ◌+◌, ◌-◌, ◌≤◌, ◌<◌}
use native.Mathlib.Omega.{arith}
use mathlib.Core.Path.{◌≡◌, sym, ap, subst, ◌∙◌}
use mathlib.Core.Bool.{Bool, true, false, true≢false}
use mathlib.Core.List.{List, [], ◌∷◌}
use mathlib.Core.Logic.{⊎_elim}
use lib.ListN.{length, drop, get_or, length-take, length-drop}
use lib.Seq.{get_or-take, get_or-drop}
use borrow.Author.Tests.{leb-true, leb-false, eqb-true}
use lib.Dec.{leb, eqb}
use Rattle.base.specs.Scans.{all, among, last_below}
use Rattle.base.proofs.Tests.{by_test}
use Rattle.base.proofs.Lists.{all_head, all_tail, all_get_d}
use Rattle.base.proofs.Scans.{Last, last_or, last_is, last_none}
use Rattle.versions.specs.Versions.{Begins}

module _ {A : Type 0} where
  pub begins_longer : (a b : List A) → Begins a b → length a ≤ length b
  begins_longer a b h = omega (arith, sym (length-take (length a) b) ∙ ap length h)

  pub begins_at : (a b : List A) (i : ℕ) (d : A) → Begins a b → i < length a → get_or b i d ≡ get_or a i d
  begins_at a b i d h l = sym (get_or-take (length a) b i d l) ∙ ap (λ s. get_or s i d) h

-- p holds of every element after the first n
pub all_after : (p : ℕ → Bool) (xs : List ℕ) (n i : ℕ) → all p (drop n xs) ≡ true → n ≤ i → i < length xs → p (get_or xs i 0) ≡ true
all_after p xs n i h b l =
    let e : n + (i - n) ≡ i = omega arith in
    rw (get_or-drop n xs (i - n) 0, e) at (all_get_d p (drop n xs) (i - n) h (rw (length-drop n xs) (omega arith)))

-- p holds of every number of a list, and so of one of them
pub all_among : (p : ℕ → Bool) (ks : List ℕ) (k : ℕ) → all p ks ≡ true → among k ks ≡ true → p k ≡ true
unfolding among
all_among p [] k h m = absurd (true≢false (sym m))
all_among p (j ∷ js) k h m =
    by_test (eqb k j)
    (λ t. subst (λ x. p x ≡ true) (sym (eqb-true k j t)) (all_head p j js h))
    (λ f. all_among p js k (all_tail p j js h) (rw f at m))

-- a test that fails from n on finds below m what it finds below n
module _ (p q : ℕ → Bool) (n m : ℕ) (longer : n ≤ m) (same : (i : ℕ) → i < n → q i ≡ p i) (fails : (i : ℕ) → n ≤ i → i < m → q i ≡ false) where
  after : (i : ℕ) → Last p n i → (j : ℕ) → i < j → j < m → q j ≡ false
  after i w j h k =
      by_test (leb n j)
      (λ t. fails j (leb-true n j t) k)
      (λ f. same j (leb-false n j f) ∙ w.after j h (leb-false n j f))

  none_of : ((i : ℕ) → i < n → p i ≡ false) → (j : ℕ) → j < m → q j ≡ false
  none_of f j k = by_test (leb n j) (λ t. fails j (leb-true n j t) k) (λ t. same j (leb-false n j t) ∙ f j (leb-false n j t))

  pub last_more : last_below q m ≡ last_below p n
  last_more =
      ⊎_elim
      (λ w. let b = w.1.below in
      last_is q m w.0 (record { below = omega arith; holds = same w.0 b ∙ w.1.holds; after = after w.0 w.1 })
      ∙ sym (last_is p n w.0 w.1))
      (λ f. last_none q m (none_of f) ∙ sym (last_none p n f))
      (last_or p n)
