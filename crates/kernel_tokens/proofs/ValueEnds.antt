-- Where a value ends, and strings, as the code meets them.
use Prim.Native.Nat.{ℕ, ◌+◌, ◌-◌, ◌≤◌, ◌<◌}
use mathlib.Core.Path.{◌≡◌, sym, ◌∙◌}
use mathlib.Core.Bool.{Bool, true, false, not, cond, ◌&&◌}
use mathlib.Core.List.{List}
use lib.Dec.{eqb, leb}
use lib.ListN.{length, drop, get_or, drop_of_length-le, length-drop}
use lib.Seq.{drop-drop}
use native.Mathlib.Nat.{add-zero}
use native.Mathlib.Omega.{arith}
use Rattle.base.proofs.Lists.{drop_next}
use Rattle.kernel_rules.specs.declared.Quoted.{Quoted}
use Rattle.kernel_rules.specs.Lines.{span}
use Rattle.kernel_rules.specs.Tokens.{is_quote, in_value, quoted_at, quoted, string_width, longest_string, closes_at_end, is_string}

-- the loop over what follows an opening quote: w bytes and c characters are passed
pub quoted_start : (l : List ℕ) (from : ℕ) → quoted 0 0 false (drop from l) ≡ quoted 0 0 false (drop (from + 0) l)
quoted_start l from = rw (add-zero from)

module _ (l : List ℕ) (from w c : ℕ) (q : Bool) (R : Quoted) (e : R ≡ quoted w c q (drop (from + w) l)) where
  pub quoted_over : (t : Bool) → from + w < length l → t ≡ (q && not (is_quote (get_or l (from + w) 0))) → t ≡ true → quoted_at w c true ≡ R
  unfolding quoted
  quoted_over t h p y = sym (e ∙ rw (drop_next l (from + w) 0 h, ← p, y))

  pub quoted_turn :
      (t n : Bool) (k : ℕ)
      → from + w < length l
      → t ≡ (q && not (is_quote (get_or l (from + w) 0)))
      → t ≡ false
      → n ≡ (not q && is_quote (get_or l (from + w) 0))
      → k ≡ cond n 0 1
      → R ≡ quoted (w + 1) (c + k) n (drop (from + (w + 1)) l)
  unfolding quoted
  quoted_turn t n k h p f pn pk = e ∙ rw (drop_next l (from + w) 0 h, ← p, f, ← pn, ← pk, plus)
    where
      plus : from + w + 1 ≡ from + (w + 1)
      plus = omega arith

  pub quoted_end : length l ≤ from + w → quoted_at w c q ≡ R
  unfolding quoted
  quoted_end h = sym (e ∙ rw (drop_of_length-le l h))

pub string_width_lem : (l : List ℕ) (from : ℕ) (q : Quoted) (k : ℕ) → q ≡ quoted 0 0 false (drop from l) → k ≡ span in_value (drop (from + q.width) l) → q.width + k ≡ string_width (drop from l)
unfolding string_width
string_width_lem l from q k e p = rw (← e, p, drop-drop q.width from l)

-- whether a token is a string
pub string_told : (t : List ℕ) (q : Quoted) → q ≡ quoted 0 0 false (drop 1 t) → (q.closed && leb q.chars longest_string && eqb q.width (length t - 1)) ≡ is_string t
unfolding is_string closes_at_end
string_told t q e = rw (← e, length-drop 1 t)
