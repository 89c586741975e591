-- What tokens do to a list, as the code meets them.
use Prim.Native.Nat.{ℕ, ◌+◌, ◌≤◌, ◌<◌}
use mathlib.Core.Path.{◌≡◌, sym, ap, ◌∙◌}
use mathlib.Core.Bool.{Bool, true, false}
use mathlib.Core.List.{List}
use lib.ListN.{length, drop, get_or}
use Rattle.kernel_rules.specs.declared.Stage.{Stage}
use Rattle.kernel_rules.specs.Lines.{is_gap, part}
use Rattle.kernel_rules.specs.Tokens.{width_at, tokens_of, item, items}
use Rattle.kernel_tokens.proofs.Tokens.{tokens_gap, tokens_here, tokens_end}

-- the tokens from a place on
module _ (l : List ℕ) (i : ℕ) (p R : Stage) (e : R ≡ items p (tokens_of (drop i l))) where
  pub items_gap : (g : Bool) → i < length l → g ≡ is_gap (get_or l i 0) → g ≡ true → R ≡ items p (tokens_of (drop (i + 1) l))
  items_gap g h d y = e ∙ ap (items p) (tokens_gap l i h (sym d ∙ y))

  pub items_turn : (g : Bool) (w : ℕ) (r : Stage) → i < length l → g ≡ is_gap (get_or l i 0) → g ≡ false → w ≡ width_at (drop i l) → r ≡ item p (part l i (i + w)) → R ≡ items r (tokens_of (drop (i + w) l))
  unfolding items
  items_turn g w r h d n u x = e ∙ ap (items p) (tokens_here l i h w (sym d ∙ n) u) ∙ rw x

  pub items_end : length l ≤ i → p ≡ R
  unfolding items
  items_end h = sym (e ∙ rw (tokens_end l i h))
