-- Assignments: name, operator and values; the stage that each line leaves; the assignments of a text.
use Rattle.std.specs.Prelude.{ℕ, ◌+◌, ◌-◌, Bool, true, false, not, ◌&&◌, ◌||◌, cond, List, [], ◌∷◌, ◌++◌, eqb, leb, ltb, length, drop, get_or}
use Rattle.base.specs.Scans.{all, all_of}
use Rattle.kernel_rules.specs.declared.Stage.{Stage}
use Rattle.kernel_rules.specs.declared.Stage.TheVariants.{Comment, Data, Opened, Numbers, Strings, Forbidden}
use Rattle.kernel_rules.specs.Lines.{is_gap, trim_to, span, after_gap, part, begin_data, begin_text, is_marker, is_data_line, is_empty_line}
use Rattle.kernel_rules.specs.Tokens.{is_comma, is_open, is_close, tokens_of, with_close, item, items}

abbrev pub is_equals : ℕ → Bool
is_equals b = eqb b 61

abbrev pub is_plus_byte : ℕ → Bool
is_plus_byte b = eqb b 43

-- the first `=`; the line's length where there is none
unfoldable pub equals_at : List ℕ → ℕ
equals_at l = span (λ b. not (is_equals b)) l

-- a `+` directly before it: the operator is `+=`
unfoldable pub is_plus : List ℕ → Bool
is_plus l = ltb 0 (equals_at l) && is_plus_byte (get_or l (equals_at l - 1) 0)

-- the name: what stands before the operator, less the blanks and tabs around it
unfoldable pub name_end : List ℕ → ℕ
name_end l = trim_to is_gap l (equals_at l - cond (is_plus l) 1 0)

unfoldable pub name_in : List ℕ → List ℕ
name_in l = part l (after_gap l 0) (name_end l)

-- where the value begins
unfoldable pub value_at : List ℕ → ℕ
value_at l = after_gap l (equals_at l + 1)

abbrev pub longest_name : ℕ
longest_name = 32

-- "none of them blank, tab, ( ) , =". No `=` stands before the first.
abbrev pub in_name : ℕ → Bool
in_name b = not (is_gap b || is_comma b || is_open b || is_close b)

-- "1 to 32 bytes .. and the last no +"
unfoldable pub is_name : List ℕ → Bool
is_name w = all_of (leb 1 (length w) ∷ leb (length w) longest_name ∷ all in_name w ∷ not (is_plus_byte (get_or w (length w - 1) 0)) ∷ [])

-- "VALUE or ( LIST )": a value by itself is as a list of it
unfoldable pub value_stage : List (List ℕ) → Stage
value_stage [] = Forbidden
value_stage (t ∷ []) = cond (is_open (get_or t 0 0)) Opened (with_close (item Opened t))
value_stage (t ∷ u ∷ ts) = cond (is_open (get_or t 0 0)) (items Opened (u ∷ ts)) Forbidden

-- an assignment's own line
unfoldable pub assigned : List ℕ → Stage
assigned l = cond (ltb (equals_at l) (length l) && is_name (name_in l)) (value_stage (tokens_of (drop (value_at l) l))) Forbidden

-- a \begindata line: "inside data does nothing"
unfoldable pub begins_data : Stage → Stage
begins_data Comment = Data
begins_data Data = Data
begins_data Opened = Opened
begins_data Numbers = Numbers
begins_data Strings = Strings
begins_data Forbidden = Forbidden

-- a \begintext line: no list is open there
unfoldable pub begins_text : Stage → Stage
begins_text Comment = Comment
begins_text Data = Comment
begins_text Opened = Forbidden
begins_text Numbers = Forbidden
begins_text Strings = Forbidden
begins_text Forbidden = Forbidden

-- any other line: a comment may be anything; of data an empty line does nothing, also in a list
unfoldable pub plain_stage : Stage → List ℕ → Stage
plain_stage Comment l = Comment
plain_stage Data l = cond (is_data_line l) (cond (is_empty_line l) Data (assigned l)) Forbidden
plain_stage Opened l = cond (is_data_line l) (items Opened (tokens_of l)) Forbidden
plain_stage Numbers l = cond (is_data_line l) (items Numbers (tokens_of l)) Forbidden
plain_stage Strings l = cond (is_data_line l) (items Strings (tokens_of l)) Forbidden
plain_stage Forbidden l = Forbidden

unfoldable pub after_line : Stage → List ℕ → Stage
after_line p l = cond (is_marker begin_data l) (begins_data p) (cond (is_marker begin_text l) (begins_text p) (plain_stage p l))

unfoldable pub after_lines : Stage → List (List ℕ) → Stage
after_lines p [] = p
after_lines p (l ∷ ls) = after_lines (after_line p l) ls

-- "The text's end ends a data block", and no list is open there.
unfoldable pub ends_well : Stage → Bool
ends_well Comment = true
ends_well Data = true
ends_well Opened = false
ends_well Numbers = false
ends_well Strings = false
ends_well Forbidden = false

-- the values of a list: what stands before the closing parenthesis, less the commas
unfoldable pub until_close : List (List ℕ) → List (List ℕ)
until_close [] = []
until_close (t ∷ ts) = cond (is_close (get_or t 0 0)) [] (cond (is_comma (get_or t 0 0)) [] (t ∷ []) ++ until_close ts)

-- the tokens of the lines after an assignment's own; a \begindata line has none
unfoldable pub tokens_of_lines : List (List ℕ) → List (List ℕ)
tokens_of_lines [] = []
tokens_of_lines (l ∷ ls) = cond (is_marker begin_data l) [] (tokens_of l) ++ tokens_of_lines ls

unfoldable pub values_in : List (List ℕ) → List (List ℕ) → List (List ℕ)
values_in [] more = []
values_in (t ∷ ts) more = cond (is_open (get_or t 0 0)) (until_close (ts ++ more)) (t ∷ [])

-- An assignment is given by its own line l and the lines after it. Its values, each as it is written:
unfoldable pub values_of : List ℕ → List (List ℕ) → List (List ℕ)
values_of l ls = values_in (tokens_of (drop (value_at l) l)) (tokens_of_lines ls)
