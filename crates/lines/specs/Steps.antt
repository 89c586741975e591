-- The lines as the input comes in, chunk by chunk: what is carried from byte to byte, and what one step through a chunk does.
use Rattle.std.specs.Prelude.{ℕ, ◌+◌, ◌≤◌, min, Bool, true, false, cond, ◌||◌, List, [], ◌∷◌, ◌++◌, eqb, length, take, drop}
use Rattle.lines.specs.declared.LineStep.{LineStep}
use Rattle.lines.specs.Lines.{line_end, kept_of}

-- the lines that have ended, and what is kept of the line under way
pub record Carried : Type 0 where
  pub ended : List (List ℕ)
  pub line : List ℕ

unfoldable pub carried : List (List ℕ) → List ℕ → Carried
carried ls l = record { ended = ls; line = l }

-- one byte more, over a line buffer with this room
unfoldable pub with_next : ℕ → Carried → ℕ → Carried
with_next room c b = cond (eqb b line_end) (carried (c.ended ++ (c.line ∷ [])) []) (carried c.ended (kept_of room (c.line ++ (b ∷ []))))

unfoldable pub fed : ℕ → Carried → List ℕ → Carried
fed room c [] = c
fed room c (b ∷ bs) = fed room (with_next room c b) bs

-- what is kept of the line under way after these bytes, where l was kept of it before them
unfoldable pub line_left : ℕ → List ℕ → List ℕ → List ℕ
line_left room l bs = (fed room (carried [] l) bs).line

-- an input that comes in chunks, cut anywhere
unfoldable pub fed_chunks : ℕ → Carried → List (List ℕ) → Carried
fed_chunks room c [] = c
fed_chunks room c (s ∷ ss) = fed_chunks room (fed room c s) ss

-- the end of input ends a line that has a byte
unfoldable pub last_line : List ℕ → List (List ℕ)
last_line [] = []
last_line (b ∷ l) = (b ∷ l) ∷ []

unfoldable pub all_lines : Carried → List (List ℕ)
all_lines c = c.ended ++ last_line c.line

-- the bytes before the first byte 10, or all where there is none
unfoldable pub line_in : List ℕ → List ℕ
line_in [] = []
line_in (b ∷ bs) = cond (eqb b line_end) [] (b ∷ line_in bs)

-- whether there is a byte 10
unfoldable pub ends_in : List ℕ → Bool
ends_in [] = false
ends_in (b ∷ bs) = eqb b line_end || ends_in bs

-- how many bytes a step takes: the line's, and its byte 10
unfoldable pub taken_in : List ℕ → ℕ
taken_in bs = length (line_in bs) + cond (ends_in bs) 1 0

-- what is kept once the chunk's bytes up to byte 10 are added to what was kept
unfoldable pub kept_with : ℕ → List ℕ → List ℕ → List ℕ
kept_with room l bs = kept_of room (l ++ line_in bs)

-- One step, from the byte `at` of a chunk, with the first `kept` bytes of the line buffer in use.
unfoldable pub next_line : List ℕ → ℕ → List ℕ → ℕ → LineStep
next_line chunk at line kept =
    record {
      at = at + taken_in (drop at chunk);
      kept = length (kept_with (length line) (take kept line) (drop at chunk));
      ended = ends_in (drop at chunk);
    }

-- the line buffer after it
unfoldable pub line_after : List ℕ → ℕ → List ℕ → ℕ → List ℕ
line_after chunk at line kept =
    let now = kept_with (length line) (take kept line) (drop at chunk) in now ++ drop (length now) line

-- What a loop over a chunk needs of a step: it stays within the chunk and the line buffer, and takes a byte where one is left.
pub record Onward (chunk : List ℕ) (at room : ℕ) (r : LineStep) : Type 0 where
  pub within : r.at ≤ length chunk
  pub onward : min (at + 1) (length chunk) ≤ r.at
  pub fits : r.kept ≤ room

-- what is carried after a step: the line is one that has ended, or is under way
unfoldable pub carried_on : List (List ℕ) → Bool → List ℕ → Carried
carried_on ls true l = carried (ls ++ (l ∷ [])) []
carried_on ls false l = carried ls l
