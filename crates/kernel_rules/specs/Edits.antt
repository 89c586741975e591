-- Table A as a short kernel text with some lines changed, and what is read then: the tables of readings and refusals are lists of such cases.
use Rattle.std.specs.Prelude.{ℕ, ◌+◌, List, [], ◌∷◌, ◌++◌, map, ℤ, pos, take, drop}
use Prim.Native.String.{String}
use Rattle.rules.specs.Answer.{Answer, answer, unless, and_then}
use Rattle.rules.specs.Examples.{bytes}
use Rattle.kernel_rules.specs.Names.{clock_digits}
use Rattle.kernel_rules.specs.Tables.{Lists, Tables}
use Rattle.kernel_rules.specs.Kernel.{lines_read, fits}
use Rattle.kernel_rules.specs.Examples.{tables_a}
use Rattle.kernel_rules.specs.Computing.{reading}

-- what read_kernel gives for a text of these lines (kernel_outcomes: read_of_lines)
unfoldable pub read_lines : List (List ℕ) → ℤ → Lists → Answer Tables
read_lines ls clock lent = and_then (lines_read (clock_digits clock) ls) (λ t. unless 16 (fits t.lists lent) (answer t))

-- Its lines are counted from 0; the data begins at line 2 and ends before line 13.
unfoldable pub short_a : List String
short_a =
    "KPL/SCLK"
    ∷ "\\begindata"
    ∷ "SCLK_KERNEL_ID=1"
    ∷ "SCLK_DATA_TYPE_77=1"
    ∷ "SCLK01_TIME_SYSTEM_77=2"
    ∷ "SCLK01_N_FIELDS_77=2"
    ∷ "SCLK01_MODULI_77=(100 10)"
    ∷ "SCLK01_OFFSETS_77=(0 0)"
    ∷ "SCLK01_OUTPUT_DELIM_77=1"
    ∷ "SCLK_PARTITION_START_77=(0 200)"
    ∷ "SCLK_PARTITION_END_77=(500 900)"
    ∷ "SCLK01_COEFFICIENTS_77=(0 -1E-6 25E-9"
    ∷ "600 1E-6 30E-9)"
    ∷ "\\begintext"
    ∷ []

-- these lines in place of n of them, from line i on
unfoldable pub replaced : ℕ → ℕ → List String → List (List ℕ)
replaced i n ls = map bytes (take i short_a ++ ls ++ drop (i + n) short_a)

-- line i is another, is missing, or has another before it
unfoldable pub instead : ℕ → String → List (List ℕ)
instead i l = replaced i 1 (l ∷ [])

unfoldable pub without : ℕ → List (List ℕ)
without i = replaced i 1 []

unfoldable pub before : ℕ → String → List (List ℕ)
before i l = replaced i 0 (l ∷ [])

-- the lines of the coefficients
unfoldable pub coefficients : List String → List (List ℕ)
coefficients ls = replaced 11 2 ("SCLK01_COEFFICIENTS_77=(" ∷ ls)

pub record Case : Type 0 where
  pub lines : List (List ℕ)
  pub expected : Answer Tables

unfoldable pub case : Answer Tables → List (List ℕ) → Case
case a ls = record { lines = ls; expected = a }

-- one answer for each of these
unfoldable pub each : Answer Tables → List (List (List ℕ)) → List Case
each a lss = map (case a) lss

abbrev pub unchanged : Answer Tables
unchanged = answer tables_a

-- for clock 77, with lists that are just long enough
unfoldable pub read_case : Case → Answer Tables
read_case c = read_lines c.lines (pos 77) tables_a.lists

-- `unfolding editing` lets such a table compute
unfoldable pub editing : Type 0
unfolding reading short_a tables_a read_lines replaced instead without before coefficients case each read_case
editing = Unit {0}
