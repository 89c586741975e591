-- The values of an assignment by their places in the text.
use Rattle.std.specs.Prelude.{ℕ, ◌≤◌, ◌<◌, ◌≡◌, Bool, true, ◌||◌, cond, List, [], ◌∷◌, ◌++◌, length, drop}
use Rattle.kernel_rules.specs.Lines.{is_gap, part, kernel_lines}
use Rattle.kernel_rules.specs.Tokens.{is_comma, tokens_of}
use Rattle.kernel_rules.specs.Assignments.{until_close, tokens_of_lines, values_of}
use Rattle.kernel_lines.specs.Places.{line_at}
use Rattle.kernel_walk.specs.declared.Value.{Value}

-- the line of an assignment that begins at a place, the lines after it, and its values
abbrev pub line_here : List ℕ → ℕ → List ℕ
line_here text at = part text at (line_at text at).end

abbrev pub lines_behind : List ℕ → ℕ → List (List ℕ)
lines_behind text at = kernel_lines (drop (line_at text at).next text)

abbrev pub values_here : List ℕ → ℕ → List (List ℕ)
values_here text at = values_of (line_here text at) (lines_behind text at)

-- what may stand between the values of a list
abbrev pub is_between : ℕ → Bool
is_between b = is_gap b || is_comma b

-- the values of a list from a place on: of the rest of a line and of the lines from the next on
unfoldable pub values_from : List ℕ → ℕ → ℕ → ℕ → List (List ℕ)
values_from text at end next = until_close (tokens_of (part text at end) ++ tokens_of_lines (kernel_lines (drop next text)))

-- a value that was found, and those after it
unfoldable pub values_with : List ℕ → Value → List (List ℕ)
values_with text v = cond v.found (part text v.from v.to ∷ values_from text v.to v.end v.next) []

-- It stands in the text, at or behind a place.
pub record Within (text : List ℕ) (at : ℕ) (v : Value) : Type 0 where
  pub behind : at ≤ v.from
  pub some : v.found ≡ true → v.from < v.to
  pub ends : v.from ≤ v.to
  pub line : v.to ≤ v.end
  pub onward : v.end ≤ v.next
  pub text_end : v.next ≤ length text
