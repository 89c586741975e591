-- What the places of the names with one value give: the heading.
use Rattle.std.specs.Prelude.{ℕ, Bool, ◌&&◌, ◌||◌, cond, List, [], ◌∷◌, Option, Some, None}
use Rattle.base.specs.Scans.{all_of}
use Rattle.kernel_rules.specs.declared.Number.{Number}
use Rattle.kernel_rules.specs.declared.Number.TheVariants.{Plus}
use Rattle.kernel_rules.specs.Names.{Assignment}
use Rattle.kernel_rules.specs.Assignments.{values_of}
use Rattle.kernel_rules.specs.Tables.{name_ok, is_exactly, is_unsigned, unsigned}
use Rattle.kernel_values.specs.Reads.{first_number}
use Rattle.kernel_heading.specs.declared.Heading.{Heading}

-- its first value; where it is absent 1, as the time system is
unfoldable pub number_given : List Assignment → Number
number_given [] = Plus 1
number_given (a ∷ more) = first_number (values_of a.line a.after)

unfoldable pub is_system : Number → Bool
is_system n = is_exactly 1 n || is_exactly 2 n

unfoldable pub system_of : Number → ℕ
system_of n = cond (is_exactly 2 n) 2 1

-- its number where it is given as it may be
unfoldable pub single_of : ℕ → List Assignment → Option Number
single_of k g = cond (name_ok k g) (Some (number_given g)) None

-- the heading, by what each name is given, where all are given as they may be
unfoldable pub heading_good : (ℕ → List Assignment) → Bool
heading_good g =
    all_of
    (name_ok 0 (g 0)
    ∷ name_ok 1 (g 1)
    ∷ name_ok 2 (g 2)
    ∷ name_ok 3 (g 3)
    ∷ name_ok 6 (g 6)
    ∷ is_exactly 1 (number_given (g 1))
    ∷ is_system (number_given (g 2))
    ∷ [])

unfoldable pub heading_of : (ℕ → List Assignment) → Heading
heading_of g =
    record {
      exact = is_unsigned (number_given (g 3)) && is_unsigned (number_given (g 6));
      n = unsigned (number_given (g 3));
      delimiter = unsigned (number_given (g 6));
      system = system_of (number_given (g 2));
    }

unfoldable pub heading_read : (ℕ → List Assignment) → Option Heading
heading_read g = cond (heading_good g) (Some (heading_of g)) None
