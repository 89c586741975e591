-- Whether the five lists are given as they may be, and whether their numbers are exact.
use Rattle.std.specs.Prelude.{Bool, false, not, ◌&&◌, List, [], ◌∷◌, ℕ}
use Rattle.base.specs.Scans.{all_of}
use Rattle.kernel_rules.specs.Names.{Assignment}
use Rattle.kernel_rules.specs.Numbers.{is_number}
use Rattle.kernel_rules.specs.Assignments.{is_plus, values_of}
use Rattle.kernel_rules.specs.Tables.{every, values_given, in_nanoseconds, in_picoseconds, is_unsigned, is_signed, are_whole, counts_in, times_in, rates_in}

-- one of the five lists is given as it may be
unfoldable pub list_ok : List Assignment → Bool
list_ok [] = false
list_ok (a ∷ []) = not (is_plus a.line) && every is_number (values_of a.line a.after)
list_ok (a ∷ b ∷ more) = false

-- the coefficients are exact in their units
unfoldable pub rows_exact : List (List ℕ) → Bool
rows_exact vs =
    are_whole (counts_in vs)
    && (every (λ v. is_signed (in_nanoseconds v)) (times_in vs) && every (λ v. is_unsigned (in_picoseconds v)) (rates_in vs))

-- the lists: all given as they may be, and all exact
unfoldable pub lists_good : (ℕ → List Assignment) → Bool
lists_good g = all_of (list_ok (g 4) ∷ list_ok (g 5) ∷ list_ok (g 7) ∷ list_ok (g 8) ∷ list_ok (g 9) ∷ [])

unfoldable pub lists_exact : (ℕ → List Assignment) → Bool
lists_exact g =
    all_of
    (are_whole (values_given (g 4))
    ∷ are_whole (values_given (g 5))
    ∷ rows_exact (values_given (g 7))
    ∷ are_whole (values_given (g 8))
    ∷ are_whole (values_given (g 9))
    ∷ [])
