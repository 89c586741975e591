-- The three ends of an input, and a line that two chunks share, over a line buffer of two bytes.
use Rattle.std.specs.Prelude.{ℕ, ◌≡◌, refl, List, [], ◌∷◌, map}
use Rattle.lines.specs.Lines.{lines_of, with_byte, kept_of}
use Rattle.lines.specs.Steps.{carried, with_next, fed, fed_chunks, last_line, all_lines}

pub record Case : Type 0 where
  pub input : List ℕ
  pub expected : List (List ℕ)

unfoldable pub case : List ℕ → List (List ℕ) → Case
case i ls = record { input = i; expected = ls }

unfoldable pub cases : List Case
cases =
    -- no input at all
    case [] []
    -- a last line without byte 10
    ∷ case (49 ∷ 10 ∷ 50 ∷ 51 ∷ []) ((49 ∷ []) ∷ (50 ∷ 51 ∷ []) ∷ [])
    -- nothing after the last byte 10
    ∷ case (49 ∷ 10 ∷ 50 ∷ 51 ∷ 10 ∷ []) ((49 ∷ []) ∷ (50 ∷ 51 ∷ []) ∷ [])
    -- empty lines are lines, and a 13 is part of its line
    ∷ case (10 ∷ 13 ∷ 10 ∷ 10 ∷ []) ([] ∷ (13 ∷ []) ∷ [] ∷ [])
    ∷ []

pub cases_hold : map (λ c. lines_of c.input) cases ≡ map (λ c. c.expected) cases
unfolding lines_of with_byte case cases
cases_hold = refl

pub cut_line : all_lines (fed_chunks 2 (carried [] []) ((49 ∷ 10 ∷ 50 ∷ []) ∷ [] ∷ (51 ∷ []) ∷ [])) ≡ lines_of (49 ∷ 10 ∷ 50 ∷ 51 ∷ [])
unfolding lines_of with_byte kept_of carried with_next fed fed_chunks last_line all_lines
cut_line = refl
