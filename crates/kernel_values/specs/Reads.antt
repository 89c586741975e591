-- What reading the values of an assignment gives.
use Rattle.std.specs.Prelude.{ℕ, Bool, true, false, ◌&&◌, not, cond, List, [], ◌∷◌, map, ℤ, pos, eqb, length}
use Rattle.kernel_rules.specs.declared.Number.{Number}
use Rattle.kernel_rules.specs.declared.Number.TheVariants.{Malformed, Inexact, Plus, Minus}
use Rattle.kernel_rules.specs.Numbers.{is_number}
use Rattle.kernel_rules.specs.Assignments.{is_plus, values_of}
use Rattle.kernel_rules.specs.Tables.{every, whole, in_nanoseconds, in_picoseconds, is_unsigned, unsigned, is_signed, signed, counts_in, times_in, rates_in, are_whole}
use Rattle.kernel_values.specs.declared.Filled.{Filled}
use Rattle.kernel_values.specs.declared.Judged.{Judged}
use Rattle.kernel_values.specs.declared.One.{One}

-- it was a number: the law `formed_is` says that this is `is_number`, whatever the unit
unfoldable pub is_formed : Number → Bool
is_formed Malformed = false
is_formed Inexact = true
is_formed (Plus v) = true
is_formed (Minus v) = true

-- the times in nanoseconds and the rates in picoseconds that 64 bits hold
abbrev pub are_times : List (List ℕ) → Bool
are_times vs = every (λ v. is_signed (in_nanoseconds v)) vs

abbrev pub are_rates : List (List ℕ) → Bool
are_rates vs = every (λ v. is_unsigned (in_picoseconds v)) vs

-- what is judged of the value s in column c of a row
unfoldable pub exact_in : ℕ → List ℕ → Bool
exact_in c s =
    cond (eqb c 0) (is_unsigned (whole s)) true
    && (cond (eqb c 1) (is_signed (in_nanoseconds s)) true && cond (eqb c 2) (is_unsigned (in_picoseconds s)) true)

unfoldable pub judged_in : ℕ → List ℕ → Judged
judged_in c s = record { number = is_number s; exact = exact_in c s }

-- a list of whole numbers, and the coefficients in rows of three
unfoldable pub list_read : List ℕ → List (List ℕ) → Filled
list_read l ls =
    record {
      plain = not (is_plus l);
      count = length (values_of l ls);
      numbers = every is_number (values_of l ls);
      exact = are_whole (values_of l ls);
    }

unfoldable pub rows_read : List ℕ → List (List ℕ) → Filled
rows_read l ls =
    record {
      plain = not (is_plus l);
      count = length (values_of l ls);
      numbers = every is_number (values_of l ls);
      exact = are_whole (counts_in (values_of l ls)) && (are_times (times_in (values_of l ls)) && are_rates (rates_in (values_of l ls)));
    }

-- what is stored of a time: 0 where it is not exact in 64 bits
unfoldable pub signed_or0 : Number → ℤ
signed_or0 n = cond (is_signed n) (signed n) (pos 0)

abbrev pub times_of : List (List ℕ) → List ℤ
times_of vs = map (λ v. signed_or0 (in_nanoseconds v)) vs

abbrev pub rates_of : List (List ℕ) → List ℕ
rates_of vs = map (λ v. unsigned (in_picoseconds v)) vs

-- a name of one value
unfoldable pub first_number : List (List ℕ) → Number
first_number [] = Malformed
first_number (v ∷ vs) = whole v

unfoldable pub one_read : List ℕ → List (List ℕ) → One
one_read l ls =
    record { plain = not (is_plus l); single = eqb (length (values_of l ls)) 1; number = first_number (values_of l ls) }
