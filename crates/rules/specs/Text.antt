-- "Reading clock text": bytes, then marks and digits, then fields, then the count. A place is a byte of the whole text, from 0.
use Rattle.std.specs.Prelude.{ℕ, ◌+◌, ◌-◌, ◌*◌, Bool, true, false, ◌&&◌, ◌||◌, cond, List, [], ◌∷◌, ◌++◌, leb, eqb, length, drop}
use Rattle.std.proofs.Math.Option.{Option, none, some}
use Rattle.base.specs.Scans.{product}
use Rattle.rules.specs.Limits.{longest_text, largest_field, largest_count}
use Rattle.rules.specs.declared.Layout.{Layout}
use Rattle.rules.specs.declared.Reading.{Reading}
use Rattle.rules.specs.Layout.{moduli_of, offsets_of, layout_ok}
use Rattle.rules.specs.Answer.{Answer, answer, unless, unless_at, fails_at, reading}

-- bytes 48 to 57
abbrev pub is_digit : ℕ → Bool
is_digit b = leb 48 b && leb b 57

-- byte 32 and nothing else
abbrev pub is_blank : ℕ → Bool
is_blank b = eqb b 32

-- `.` `:` `,` `-`
abbrev pub is_mark : ℕ → Bool
is_mark b = eqb b 46 || eqb b 58 || eqb b 44 || eqb b 45

-- "digits, blank, `.` `:` `,` `-`"
abbrev pub is_allowed : ℕ → Bool
is_allowed b = is_digit b || is_blank b || is_mark b

-- the earliest byte that is not allowed, of bytes that begin at the place i
unfoldable pub not_allowed_from : ℕ → List ℕ → Option ℕ
not_allowed_from i [] = none
not_allowed_from i (b ∷ s) = cond (is_allowed b) (not_allowed_from (i + 1) s) (some i)

-- A digit of a text: where it stands, and its value.
pub record Digit : Type 0 where
  pub place : ℕ
  pub value : ℕ

abbrev pub digit_at : ℕ → ℕ → Digit
digit_at i b = record { place = i; value = b - 48 }

-- What a text is made of once its blanks are read: marks (the paper's term) and digits.
pub data Symbol : Type 0 where
  mark : Symbol
  digit : Digit → Symbol

-- What stands directly before a byte. edge: the text's start or a mark, and any blanks after it; number: a digit; gap: blanks after a digit.
pub data Before : Type 0 where
  edge number gap : Before

-- the digit itself, with a mark in front where a "run of blanks with a digit directly on both sides" ends here
unfoldable pub digit_after : Before → Digit → List Symbol
digit_after edge d = digit d ∷ []
digit_after number d = digit d ∷ []
digit_after gap d = mark ∷ digit d ∷ []

-- the symbols that end with the byte b at the place i: "Blanks at both ends are dropped." "Other blanks are dropped."
unfoldable pub symbols_at : Before → ℕ → ℕ → List Symbol
symbols_at w i b = cond (is_digit b) (digit_after w (digit_at i b)) (cond (is_mark b) (mark ∷ []) [])

-- blanks directly after a digit are a gap
unfoldable pub after_blank : Before → Before
after_blank edge = edge
after_blank number = gap
after_blank gap = gap

unfoldable pub after : Before → ℕ → Before
after w b = cond (is_digit b) number (cond (is_mark b) edge (after_blank w))

-- of bytes that begin at the place i
unfoldable pub symbols_from : Before → ℕ → List ℕ → List Symbol
symbols_from w i [] = []
symbols_from w i (b ∷ s) = symbols_at w i b ++ symbols_from (after w b) (i + 1) s

-- A field is the list of its digits; an empty one has none.
abbrev pub Field : Type 0
Field = List Digit

-- one more digit in front of the first field
unfoldable pub with_digit : Digit → List Field → List Field
with_digit d [] = (d ∷ []) ∷ []
with_digit d (f ∷ fs) = (d ∷ f) ∷ fs

-- "The fields are what stands between marks."
unfoldable pub between : List Symbol → List Field
between [] = [] ∷ []
between (mark ∷ s) = [] ∷ between s
between (digit d ∷ s) = with_digit d (between s)

-- of bytes that begin at the place i
unfoldable pub fields_from : ℕ → List ℕ → List Field
fields_from i s = between (symbols_from edge i s)

abbrev pub is_present : Field → Bool
is_present [] = false
is_present (d ∷ ds) = true

-- "the first digit of the field"
abbrev pub first_digit : Field → ℕ
first_digit [] = 0
first_digit (d ∷ ds) = d.place

-- the number that digits after the value v make
unfoldable pub value_from : ℕ → Field → ℕ
value_from v [] = v
value_from v (d ∷ ds) = value_from (v * 10 + d.value) ds

unfoldable pub value_of : Field → ℕ
value_of f = value_from 0 f

-- "An empty or missing field adds no ticks, whatever its offset"; another adds "(value - offset) times the product of the later moduli".
unfoldable pub ticks_of : Field → ℕ → ℕ → ℕ
ticks_of f o weight = cond (is_present f) ((value_of f - o) * weight) 0

-- "The count is the sum over fields": fields, moduli, offsets
unfoldable pub sum_of : List Field → List ℕ → List ℕ → ℕ
sum_of [] ms os = 0
sum_of (f ∷ fs) [] os = 0
sum_of (f ∷ fs) (m ∷ ms) [] = 0
sum_of (f ∷ fs) (m ∷ ms) (o ∷ os) = ticks_of f o (product ms) + sum_of fs ms os

-- "The first field must be there."
abbrev pub first_present : List Field → Bool
first_present [] = false
first_present (f ∷ fs) = is_present f

-- an empty field passes; another is "a field above 10^15 + 1,000" or "a field below its offset" where these fail
unfoldable pub not_above : Field → Bool
not_above f = cond (is_present f) (leb (value_of f) largest_field) true

unfoldable pub not_below : Field → ℕ → Bool
not_below f o = cond (is_present f) (leb o (value_of f)) true

-- "then fields left to right, 9 before 8 in each", at "the first digit of the field", and then what follows
unfoldable pub each_field : List Field → List ℕ → Answer Reading → Answer Reading
each_field [] os a = a
each_field (f ∷ fs) [] a = a
each_field (f ∷ fs) (o ∷ os) a =
    unless_at 9 (fails_at (first_digit f) (not_above f))
    (unless_at 8 (fails_at (first_digit f) (not_below f o))
    (each_field fs os a))

-- The fields after the n-th, of a text that ends at the place `end`: "the first digit of the first surplus field", "for .. a surplus field that is empty, the text's length".
unfoldable pub surplus_at : ℕ → List Field → Option ℕ
surplus_at end [] = none
surplus_at end (f ∷ fs) = some (cond (is_present f) (first_digit f) end)

-- "7; 6; then fields left to right, 9 before 8 in each; the sum's 9", "for an over-large sum .. the text's length", and the count: fields by n moduli and n offsets
unfoldable pub fields_count : List ℕ → List ℕ → ℕ → List Field → Answer Reading
fields_count ms os end fs =
    unless_at 7 (surplus_at end (drop (length ms) fs))
    (unless 6 (first_present fs)
    (each_field fs os
    (unless_at 9 (fails_at end (leb (sum_of fs ms os) largest_count))
    (answer (reading (sum_of fs ms os))))))

-- The clock text that begins at the place i of the text s. 5 at "the earliest byte that can't stand where it is", and what the fields refuse.
unfoldable pub bytes_count : List ℕ → List ℕ → List ℕ → ℕ → Answer Reading
bytes_count ms os s i = unless_at 5 (not_allowed_from i (drop i s)) (fields_count ms os (length s) (fields_from i (drop i s)))

-- clock text by the moduli and offsets: 4, 5 and the rest
unfoldable pub parse_text : List ℕ → List ℕ → List ℕ → Answer Reading
parse_text ms os s = unless 4 (leb (length s) longest_text) (bytes_count ms os s 0)

-- The call: clock text without partition to its count.
unfoldable pub read_text : Layout → List ℕ → Answer Reading
read_text l s = unless 1 (layout_ok l) (parse_text (moduli_of l) (offsets_of l) s)
