-- The fields of an output line: numbers, times and refusals as text.
use Rattle.rules.specs.Answer.{Numbered}
use Rattle.std.specs.Prelude.{ℕ, ◌+◌, ◌/◌, ◌^◌, Bool, true, false, cond, List, [], ◌∷◌, ◌++◌, ℤ, pos, negsuc, Option, Some, None}
use Rattle.std.specs.Int.Signed.{le_z}
use Rattle.base.specs.Signed.{elapsed}
use Rattle.rules.specs.Print.{last_digits}
use Rattle.lines.specs.Lines.{line_end}
use Rattle.number_text.specs.Numbers.{decimal_of}
use Rattle.command_rules.specs.Sentences.{sentence}

-- what separates two fields
abbrev pub tab : ℕ
tab = 9

-- a field and those behind it
abbrev pub field : List ℕ → List ℕ → List ℕ
field s rest = s ++ (tab ∷ rest)

-- the last field, and the end of the line
abbrev pub last_field : List ℕ → List ℕ
last_field s = s ++ (line_end ∷ [])

-- a number of units, 10^places of them to a whole: the whole, a point, the places
unfoldable pub pointed : ℕ → ℕ → List ℕ
pointed places x = decimal_of (x / 10 ^ places) ++ (46 ∷ last_digits places x)

-- an amount of nanoseconds; "`--seconds` for decimal seconds"
unfoldable pub amount_text : Bool → ℕ → List ℕ
amount_text false x = decimal_of x
amount_text true x = pointed 9 x

-- a time, with `-` in front where it is negative
unfoldable pub time_text : Bool → ℤ → List ℕ
time_text seconds (pos n) = amount_text seconds n
time_text seconds (negsuc n) = 45 ∷ amount_text seconds (n + 1)

-- by how much b is later than a, with `-` in front where it is earlier
unfoldable pub difference_text : Bool → ℤ → ℤ → List ℕ
difference_text seconds a b = cond (le_z a b) (amount_text seconds (elapsed a b)) (45 ∷ amount_text seconds (elapsed b a))

-- a rate: picoseconds, or decimal seconds
unfoldable pub rate_text : Bool → ℕ → List ℕ
rate_text false r = decimal_of r
rate_text true r = pointed 12 r

-- `-` where there is no place
unfoldable pub place_text : Option ℕ → List ℕ
place_text None = 45 ∷ []
place_text (Some i) = decimal_of i

-- "a refusal with its number, place and a sentence"
unfoldable pub refusal_text : Numbered → List ℕ
refusal_text k = field (decimal_of k.number) (field (place_text k.place) (sentence k.number))
