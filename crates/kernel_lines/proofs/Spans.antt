-- How far a kind of byte reaches from a place on, as a loop meets it.
--     span_turn, span_stop, span_end     one turn of the loop and its two ends, for any kind
--     span_within                        it stays in the line
use Prim.Native.Nat.{ℕ, ◌+◌, ◌≤◌, ◌<◌}
use mathlib.Core.Path.{◌≡◌, sym, ◌∙◌}
use mathlib.Core.Bool.{Bool, true, false}
use mathlib.Core.List.{List, [], ◌∷◌}
use lib.ListN.{length, drop, get_or, drop_of_length-le, length-drop}
use native.Mathlib.Omega.{arith}
use Rattle.base.proofs.Tests.{by_test}
use Rattle.base.proofs.Lists.{drop_next}
use Rattle.kernel_rules.specs.Lines.{span}
use Rattle.kernel_lines.specs.Kinds.{after_span}

module _ (p : ℕ → Bool) where
  pub span_within : (s : List ℕ) → span p s ≤ length s
  unfolding span
  span_within [] = omega arith
  span_within (b ∷ s) = by_test (p b) (λ t. rw t (omega (arith, span_within s))) (λ f. rw f (omega arith))

  pub span_below : (l : List ℕ) (i : ℕ) → i ≤ length l → after_span p l i ≤ length l
  span_below l i h = omega (arith, span_within (drop i l), length-drop i l)

  module _ (l : List ℕ) (R i : ℕ) (e : R ≡ after_span p l i) where
    pub span_turn : i < length l → p (get_or l i 0) ≡ true → R ≡ after_span p l (i + 1)
    unfolding span
    span_turn h t = e ∙ rw (drop_next l i 0 h, t) (omega arith)

    pub span_stop : i < length l → p (get_or l i 0) ≡ false → i ≡ R
    unfolding span
    span_stop h f = sym (e ∙ rw (drop_next l i 0 h, f) (omega arith))

    pub span_end : length l ≤ i → i ≡ R
    unfolding span
    span_end h = sym (e ∙ rw (drop_of_length-le l h) (omega arith))
