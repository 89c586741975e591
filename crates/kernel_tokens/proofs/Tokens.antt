-- The tokens of a line.
--     width_some, width_within      a token takes a byte at least, and no more than there are
--     token_none, token_here, token_first      the token at a place, as the code cuts it out
--     tokens_pass, tokens_next      the tokens from a place on: the token there, and those behind it
--     tokens_end                    none at the line's end
use Prim.Native.Nat.{ℕ, zero, suc, ◌+◌, ◌-◌, ◌≤◌, ◌<◌}
use mathlib.Core.Path.{◌≡◌, refl, ap, ◌∙◌}
use mathlib.Core.Bool.{Bool, true, false, not, cond, ◌&&◌}
use mathlib.Core.List.{List, [], ◌∷◌, ◌++◌}
use lib.ListN.{length, take, drop, get_or, drop_of_length-le, length-drop}
use lib.Seq.{drop-drop, get_or-drop}
use native.Mathlib.Nat.{add-zero}
use native.Mathlib.Omega.{arith}
use borrow.Author.Tests.{eq-eqb, ne_eqb}
use Rattle.base.proofs.Tests.{by_test}
use Rattle.base.proofs.Lists.{drop_next}
use Rattle.kernel_lines.proofs.Spans.{span_within}
use Rattle.kernel_rules.specs.Lines.{is_gap, span, part}
use Rattle.kernel_rules.specs.Tokens.{is_quote, ends_value, in_value, quoted, string_width, width_at, token_at, tokens_from, tokens_of}

quoted_within : (w c : ℕ) (q : Bool) (s : List ℕ) → (quoted w c q s).width ≤ w + length s
unfolding quoted
quoted_within w c q [] = omega arith
quoted_within w c q (b ∷ s) =
    by_test (q && not (is_quote b))
    (λ t. rw t (omega arith))
    (λ f. rw f (omega (arith, quoted_within (w + 1) (c + cond (not q && is_quote b) 0 1) (not q && is_quote b) s)))

string_within : (s : List ℕ) → string_width s ≤ length s
unfolding string_width
string_within s = omega (arith, quoted_within 0 0 false s, span_within in_value (drop (quoted 0 0 false s).width s), length-drop (quoted 0 0 false s).width s)

pub width_some : (s : List ℕ) → 0 < length s → 1 ≤ width_at s
unfolding width_at
width_some [] h = absurd (omega arith)
width_some (b ∷ s) h = by_test (ends_value b) (λ t. rw t (omega arith)) (λ f. rw f (by_test (is_quote b) (λ t. rw t (omega arith)) (λ g. rw g (omega arith))))

pub width_within : (s : List ℕ) → width_at s ≤ length s
unfolding width_at
width_within [] = omega arith
width_within (b ∷ s) =
    by_test (ends_value b)
    (λ t. rw t (omega arith))
    (λ f. rw f (by_test (is_quote b) (λ t. rw t (omega (arith, string_within s))) (λ g. rw g (omega (arith, span_within in_value s)))))

-- the width at a place of the line, as the code finds it; t: the byte there ends a value
module _ (l : List ℕ) (i : ℕ) (t : Bool) (h : i < length l) (e : t ≡ ends_value (get_or l i 0)) where
  pub width_ends : t ≡ true → 1 ≡ width_at (drop i l)
  unfolding width_at
  width_ends y = rw (drop_next l i 0 h, ← e, y)

  pub width_string : (w : ℕ) → t ≡ false → get_or l i 0 ≡ 39 → w ≡ string_width (drop (i + 1) l) → w + 1 ≡ width_at (drop i l)
  unfolding width_at
  width_string w n y p = rw (drop_next l i 0 h, ← e, n, eq-eqb (get_or l i 0) 39 y, p)

  pub width_value : (w : ℕ) → t ≡ false → (get_or l i 0 ≡ 39 → ⊥) → w ≡ span in_value (drop (i + 1) l) → w + 1 ≡ width_at (drop i l)
  unfolding width_at
  width_value w n y p = rw (drop_next l i 0 h, ← e, n, ne_eqb (get_or l i 0) 39 y, p)

gap_width : (l : List ℕ) (i : ℕ) → i < length l → is_gap (get_or l i 0) ≡ true → width_at (drop i l) ≡ 1
unfolding width_at
gap_width l i h y = rw (drop_next l i 0 h, y)

-- the token at a place, if there is one
first_byte : (l : List ℕ) (i : ℕ) → get_or (drop i l) 0 0 ≡ get_or l i 0
first_byte l i = get_or-drop i l 0 0 ∙ rw (add-zero i)

module _ (l : List ℕ) (i : ℕ) where
  pub token_none : is_gap (get_or l i 0) ≡ true → token_at (drop i l) ≡ []
  unfolding token_at
  token_none y = rw (first_byte l i, y)

  pub token_here : (w : ℕ) → is_gap (get_or l i 0) ≡ false → w ≡ width_at (drop i l) → token_at (drop i l) ≡ part l i (i + w) ∷ []
  unfolding token_at
  token_here w n u = rw (first_byte l i, n, ← u, same)
    where
      same : i + w - i ≡ w
      same = omega arith

  -- its first byte is the one at the place
  pub token_first : (w : ℕ) → 1 ≤ w → get_or (part l i (i + w)) 0 0 ≡ get_or l i 0
  token_first w h = rw same (front (w - 1) (drop i l)) ∙ first_byte l i
    where
      same : i + w - i ≡ suc (w - 1)
      same = omega arith

      front : (n : ℕ) (s : List ℕ) → get_or (take (suc n) s) 0 0 ≡ get_or s 0 0
      front n [] = refl
      front n (b ∷ s) = refl

-- the bytes of a token are passed
pub tokens_pass : (k : ℕ) (s : List ℕ) → tokens_from k s ≡ tokens_of (drop k s)
unfolding tokens_from
tokens_pass zero s = refl
tokens_pass (suc k) [] = refl
tokens_pass (suc k) (b ∷ s) = tokens_pass k s

pub tokens_next : (l : List ℕ) (i : ℕ) → i < length l → tokens_of (drop i l) ≡ token_at (drop i l) ++ tokens_of (drop (i + width_at (drop i l)) l)
unfolding tokens_from
tokens_next l i h =
    first (drop i l) (drop_next l i 0 h)
    ∙ ap (λ (ts : List (List ℕ)). token_at (drop i l) ++ ts)
    (tokens_pass (width_at (drop i l) - 1) (drop (i + 1) l) ∙ ap tokens_of (drop-drop (width_at (drop i l) - 1) (i + 1) l ∙ ap (λ (n : ℕ). drop n l) sum))
  where
    first : (s : List ℕ) → s ≡ get_or l i 0 ∷ drop (i + 1) l → tokens_of s ≡ token_at s ++ tokens_from (width_at s - 1) (drop (i + 1) l)
    first s e = rw e

    sum : i + 1 + (width_at (drop i l) - 1) ≡ i + width_at (drop i l)
    sum = omega (arith, width_some (drop i l) (omega (arith, length-drop i l)))

-- in a gap, and at a token
module _ (l : List ℕ) (i : ℕ) (h : i < length l) where
  pub tokens_gap : is_gap (get_or l i 0) ≡ true → tokens_of (drop i l) ≡ tokens_of (drop (i + 1) l)
  tokens_gap y = tokens_next l i h ∙ rw (token_none l i y, gap_width l i h y)

  pub tokens_here : (w : ℕ) → is_gap (get_or l i 0) ≡ false → w ≡ width_at (drop i l) → tokens_of (drop i l) ≡ part l i (i + w) ∷ tokens_of (drop (i + w) l)
  tokens_here w n u = tokens_next l i h ∙ rw (token_here l i w n u, ← u)

pub tokens_end : (l : List ℕ) (i : ℕ) → length l ≤ i → tokens_of (drop i l) ≡ []
unfolding tokens_from
tokens_end l i h = rw (drop_of_length-le l h)
