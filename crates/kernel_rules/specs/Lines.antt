-- The lines of a kernel text, what is dropped at their ends, and the two markers.
use Rattle.std.specs.Prelude.{ℕ, zero, suc, ◌+◌, ◌-◌, Bool, true, false, ◌&&◌, ◌||◌, cond, List, [], ◌∷◌, map, eqb, leb, length, take, drop, get_or}
use Rattle.base.specs.Scans.{all}
use Rattle.lines.specs.Lines.{lines_of}
use Rattle.rules.specs.Text.{is_blank}

-- a blank or a tab
abbrev pub is_gap : ℕ → Bool
is_gap b = eqb b 32 || eqb b 9

abbrev pub is_return : ℕ → Bool
is_return b = eqb b 13

-- how many of the first n bytes are left where those of a kind are dropped at their end
unfoldable pub trim_to : (ℕ → Bool) → List ℕ → ℕ → ℕ
trim_to p s zero = 0
trim_to p s (suc n) = cond (p (get_or s n 0)) (trim_to p s n) (suc n)

-- the same, where at most one byte is dropped
unfoldable pub trim_one : (ℕ → Bool) → List ℕ → ℕ → ℕ
trim_one p s zero = 0
trim_one p s (suc n) = cond (p (get_or s n 0)) n (suc n)

-- "blanks and a 13 before that dropped": blanks, at most one 13, blanks before it
unfoldable pub kept_of : List ℕ → ℕ
kept_of l = trim_to is_blank l (trim_one is_return l (trim_to is_blank l (length l)))

unfoldable pub trimmed : List ℕ → List ℕ
trimmed l = take (kept_of l) l

-- "lines end at byte 10 or the text's end"
abbrev pub kernel_lines : List ℕ → List (List ℕ)
kernel_lines s = map trimmed (lines_of s)

-- how many bytes at the front are of a kind
unfoldable pub span : (ℕ → Bool) → List ℕ → ℕ
span p [] = 0
span p (b ∷ s) = cond (p b) (span p s + 1) 0

-- the place after the blanks and tabs that stand from place i on
unfoldable pub after_gap : List ℕ → ℕ → ℕ
after_gap l i = i + span is_gap (drop i l)

-- the bytes from place i to before place j
abbrev pub part : List ℕ → ℕ → ℕ → List ℕ
part l i j = take (j - i) (drop i l)

-- byte for byte
unfoldable pub same : List ℕ → List ℕ → Bool
same [] [] = true
same [] (y ∷ t) = false
same (x ∷ s) [] = false
same (x ∷ s) (y ∷ t) = eqb x y && same s t

-- KPL/SCLK
abbrev pub first_line : List ℕ
first_line = 75 ∷ 80 ∷ 76 ∷ 47 ∷ 83 ∷ 67 ∷ 76 ∷ 75 ∷ []

-- \begindata
abbrev pub begin_data : List ℕ
begin_data = 92 ∷ 98 ∷ 101 ∷ 103 ∷ 105 ∷ 110 ∷ 100 ∷ 97 ∷ 116 ∷ 97 ∷ []

-- \begintext
abbrev pub begin_text : List ℕ
begin_text = 92 ∷ 98 ∷ 101 ∷ 103 ∷ 105 ∷ 110 ∷ 116 ∷ 101 ∷ 120 ∷ 116 ∷ []

-- the line is the marker m, with any blanks and tabs around it
unfoldable pub is_marker : List ℕ → List ℕ → Bool
is_marker m l = same (part l (after_gap l 0) (trim_to is_gap l (length l))) m

-- what a data line may have: bytes 32 to 126 and the tab, at most 132 of them
abbrev pub longest_line : ℕ
longest_line = 132

abbrev pub is_plain : ℕ → Bool
is_plain b = (leb 32 b && leb b 126) || eqb b 9

unfoldable pub is_data_line : List ℕ → Bool
is_data_line l = leb (length l) longest_line && all is_plain l

-- blanks and tabs only
unfoldable pub is_empty_line : List ℕ → Bool
is_empty_line l = all is_gap l
