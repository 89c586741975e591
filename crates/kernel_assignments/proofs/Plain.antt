-- Plain lines and empty lines by their bytes, as the code meets them.
use Prim.Native.Nat.{ℕ, ◌+◌, ◌≤◌, ◌<◌}
use mathlib.Core.Path.{◌≡◌, refl, sym, ◌∙◌}
use mathlib.Core.Bool.{Bool, true, false, cond, ◌&&◌}
use mathlib.Core.List.{List, [], ◌∷◌}
use lib.Dec.{eqb}
use lib.ListN.{length, drop, get_or, drop_of_length-le}
use borrow.Author.Tests.{eq-eqb, eqb-true}
use native.Mathlib.Omega.{arith}
use Rattle.base.specs.Scans.{all}
use Rattle.base.proofs.Tests.{by_test, not_both, same_test}
use Rattle.base.proofs.Lists.{drop_next}
use Rattle.kernel_rules.specs.Lines.{is_gap, is_plain, is_empty_line, span, after_gap}

-- every byte, without a way out of the loop: so it is worked out many bytes at a time
and_assoc : (a b c : Bool) → (a && (b && c)) ≡ ((a && b) && c)
and_assoc true b c = refl
and_assoc false b c = refl

and-true : (a : Bool) → (a && true) ≡ a
and-true true = refl
and-true false = refl

pub plain_start : (l : List ℕ) → all is_plain l ≡ (true && all is_plain (drop 0 l))
plain_start l = refl

module _ (l : List ℕ) (good : Bool) (i : ℕ) (e : all is_plain l ≡ (good && all is_plain (drop i l))) where
  pub plain_turn : (t next : Bool) → i < length l → t ≡ is_plain (get_or l i 0) → next ≡ (good && t) → all is_plain l ≡ (next && all is_plain (drop (i + 1) l))
  unfolding all
  plain_turn t next h b n = e ∙ rw (drop_next l i 0 h, n, b) (and_assoc good (is_plain (get_or l i 0)) (all is_plain (drop (i + 1) l)))

  pub plain_end : length l ≤ i → good ≡ all is_plain l
  unfolding all
  plain_end h = sym (e ∙ rw (drop_of_length-le l h) (and-true good))

-- an empty line
span_all : (p : ℕ → Bool) (s : List ℕ) → all p s ≡ true → span p s ≡ length s
unfolding span all
span_all p [] h = refl
span_all p (b ∷ s) h = by_test (p b) (λ t. rw t (omega (arith, span_all p s (rw t at h)))) (λ f. absurd (not_both h (rw f)))

all_span : (p : ℕ → Bool) (s : List ℕ) → span p s ≡ length s → all p s ≡ true
unfolding span all
all_span p [] h = refl
all_span p (b ∷ s) h = by_test (p b) (λ t. rw t (all_span p s (less t h))) (λ f. absurd (none f h))
  where
    less : p b ≡ true → cond (p b) (span p s + 1) 0 ≡ length (b ∷ s) → span p s ≡ length s
    less t g = let k : span p s + 1 ≡ length (b ∷ s) = rw t at g in omega arith

    none : p b ≡ false → cond (p b) (span p s + 1) 0 ≡ length (b ∷ s) → ⊥
    none f g = let k : 0 ≡ length (b ∷ s) = rw f at g in omega arith

pub empty_line : (l : List ℕ) (a : ℕ) → a ≡ after_gap l 0 → eqb a (length l) ≡ is_empty_line l
unfolding is_empty_line after_gap
empty_line l a e =
    same_test (eqb a (length l)) (all is_gap l)
    (λ t. all_span is_gap l (reached (eqb-true a (length l) t)))
    (λ t. eq-eqb a (length l) (omega (arith, span_all is_gap l t)))
  where
    reached : a ≡ length l → span is_gap l ≡ length l
    reached h = omega arith
