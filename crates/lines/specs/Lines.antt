-- "lines (up to byte 10 or the end of input)": the lines of a whole input, each without its byte 10.
use Rattle.std.specs.Prelude.{ℕ, ◌+◌, cond, List, [], ◌∷◌, eqb, take}

-- the byte that ends a line
abbrev pub line_end : ℕ
line_end = 10

-- An input with one byte more in front. Byte 10 ends an empty line there. Any other byte is the first of the first line;
-- where no line follows it is a line by itself, which the end of input ends.
unfoldable pub with_byte : ℕ → List (List ℕ) → List (List ℕ)
with_byte b [] = cond (eqb b line_end) ([] ∷ []) ((b ∷ []) ∷ [])
with_byte b (l ∷ ls) = cond (eqb b line_end) ([] ∷ l ∷ ls) ((b ∷ l) ∷ ls)

-- "no bytes after the last byte 10 means no further line"
unfoldable pub lines_of : List ℕ → List (List ℕ)
lines_of [] = []
lines_of (b ∷ bs) = with_byte b (lines_of bs)

-- what a line buffer with this room keeps of a line
unfoldable pub kept_of : ℕ → List ℕ → List ℕ
kept_of room l = take room l

-- room for the longest line and for one byte more, which tells a line that is too long
abbrev pub room_for : ℕ → ℕ
room_for longest = longest + 1
