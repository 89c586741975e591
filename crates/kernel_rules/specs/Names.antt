-- The ten names, and where a text gives each.
use Rattle.std.specs.Prelude.{ℕ, cond, List, [], ◌∷◌, ◌++◌, ℤ, nat_abs, eqb, get_or}
use Rattle.std.proofs.Math.Option.{Option, none, some}
use Rattle.base.specs.Scans.{first_below}
use Rattle.rules.specs.Examples.{bytes}
use Rattle.rules.specs.Print.{padded}
use Rattle.kernel_rules.specs.declared.Stage.{Stage}
use Rattle.kernel_rules.specs.declared.Stage.TheVariants.{Comment, Data, Opened, Numbers, Strings, Forbidden}
use Rattle.kernel_rules.specs.Lines.{same}
use Rattle.kernel_rules.specs.Assignments.{name_in, after_line}

-- "end in the given clock's number without its sign": its digits
unfoldable pub clock_digits : ℤ → List ℕ
clock_digits clock = padded 1 (nat_abs clock)

-- The ten names, in the order of the request, by the clock's digits. A name's number is its place, from 0.
unfoldable pub name_list : List ℕ → List (List ℕ)
name_list digits =
    bytes "SCLK_KERNEL_ID"
    ∷ (bytes "SCLK_DATA_TYPE_" ++ digits)
    ∷ (bytes "SCLK01_TIME_SYSTEM_" ++ digits)
    ∷ (bytes "SCLK01_N_FIELDS_" ++ digits)
    ∷ (bytes "SCLK01_MODULI_" ++ digits)
    ∷ (bytes "SCLK01_OFFSETS_" ++ digits)
    ∷ (bytes "SCLK01_OUTPUT_DELIM_" ++ digits)
    ∷ (bytes "SCLK01_COEFFICIENTS_" ++ digits)
    ∷ (bytes "SCLK_PARTITION_START_" ++ digits)
    ∷ (bytes "SCLK_PARTITION_END_" ++ digits)
    ∷ []

abbrev pub names : ℕ
names = 10

-- the number of a name; `names` where it is none of the ten
unfoldable pub number_or : Option ℕ → ℕ
number_or (some k) = k
number_or none = names

unfoldable pub which : List ℕ → List ℕ → ℕ
which digits w = number_or (first_below (λ k. same w (get_or (name_list digits) k [])) names)

-- the number of the name that a line assigns: only in data, outside lists
unfoldable pub assigns : List ℕ → Stage → List ℕ → ℕ
assigns digits Data l = which digits (name_in l)
assigns digits Comment l = names
assigns digits Opened l = names
assigns digits Numbers l = names
assigns digits Strings l = names
assigns digits Forbidden l = names

-- An assignment: its own line, and the lines after it.
pub record Assignment : Type 0 where
  pub line : List ℕ
  pub after : List (List ℕ)

abbrev pub assignment : List ℕ → List (List ℕ) → Assignment
assignment l ls = record { line = l; after = ls }

-- the assignments of the name k
unfoldable pub given : List ℕ → ℕ → Stage → List (List ℕ) → List Assignment
given digits k p [] = []
given digits k p (l ∷ ls) = cond (eqb (assigns digits p l) k) (assignment l ls ∷ []) [] ++ given digits k (after_line p l) ls
