-- What assignments give: their lines, and what is read and stored of them.
use Rattle.std.specs.Prelude.{ℕ, ◌≡◌, refl, Bool, true, false, List, [], ◌∷◌, map, ℤ, pos, negsuc}
use Prim.Native.String.{String}
use Rattle.rules.specs.Examples.{bytes}
use Rattle.kernel_rules.specs.declared.Number.{Number}
use Rattle.kernel_rules.specs.declared.Number.TheVariants.{Malformed, Inexact, Plus, Minus}
use Rattle.kernel_rules.specs.Assignments.{values_of}
use Rattle.kernel_rules.specs.Tables.{numbers, counts_in, times_in, rates_in}
use Rattle.kernel_rules.specs.Computing.{reading}
use Rattle.kernel_values.specs.Storing.{stored}
use Rattle.kernel_values.specs.declared.Filled.{Filled}
use Rattle.kernel_values.specs.declared.One.{One}
use Rattle.kernel_values.specs.Reads.{signed_or0, list_read, rows_read, first_number, one_read, times_of, rates_of}

unfoldable pub filled : Bool → ℕ → Bool → Bool → Filled
filled p c n e = record { plain = p; count = c; numbers = n; exact = e }

-- an assignment's own line, the lines after it, and a list of 9s that is lent
pub record Case (A : Type 0) : Type 0 where
  pub line : String
  pub after : List String
  pub expected : A

pub record ListRead : Type 0 where
  pub read : Filled
  pub list : List ℕ

unfoldable pub case : {A : Type 0} → String → List String → A → Case A
case l ls e = record { line = l; after = ls; expected = e }

unfoldable pub list : Filled → List ℕ → ListRead
list r l = record { read = r; list = l }

-- two places are lent
unfoldable pub list_of : String → List String → ListRead
list_of l ls = list (list_read (bytes l) (map bytes ls)) (stored (numbers (values_of (bytes l) (map bytes ls))) (9 ∷ 9 ∷ []))

unfoldable pub lists : List (Case ListRead)
lists =
    case "X = 5" [] (list (filled true 1 true true) (5 ∷ 9 ∷ []))
    ∷ case "X += ( 5 )" [] (list (filled false 1 true true) (5 ∷ 9 ∷ []))
    -- a comma is as a blank, and a list may go on for lines
    ∷ case "X = ( 1,,2 )" [] (list (filled true 2 true true) (1 ∷ 2 ∷ []))
    ∷ case "X = (" ("1E2" ∷ "\\begindata" ∷ "" ∷ "-0)" ∷ "Y = 7" ∷ []) (list (filled true 2 true true) (100 ∷ 0 ∷ []))
    -- what has no room is counted and judged
    ∷ case "X = (1 2 3)" [] (list (filled true 3 true true) (1 ∷ 2 ∷ []))
    ∷ case "X = (1 2 0.5)" [] (list (filled true 3 true false) (1 ∷ 2 ∷ []))
    ∷ case "X = (1 2 @A)" [] (list (filled true 3 false false) (1 ∷ 2 ∷ []))
    -- not exact, below 0, beyond 64 bits: 0 stands there
    ∷ case "X = (-1 18446744073709551616)" [] (list (filled true 2 true false) (0 ∷ 0 ∷ []))
    ∷ case "X = (18446744073709551615" (")" ∷ []) (list (filled true 1 true true) (18446744073709551615 ∷ 9 ∷ []))
    ∷ []

pub lists_hold : map (λ c. list_of c.line c.after) lists ≡ map (λ c. c.expected) lists
unfolding reading stored list_read filled case list list_of lists
lists_hold = refl

pub record RowsRead : Type 0 where
  pub read : Filled
  pub counts : List ℕ
  pub times : List ℤ
  pub rates : List ℕ

unfoldable pub rows : Filled → List ℕ → List ℤ → List ℕ → RowsRead
rows r c t p = record { read = r; counts = c; times = t; rates = p }

unfoldable pub rows_of : String → List String → RowsRead
rows_of l ls =
    let vs = values_of (bytes l) (map bytes ls) in
    rows
    (rows_read (bytes l) (map bytes ls))
    (stored (numbers (counts_in vs)) (9 ∷ 9 ∷ []))
    (stored (times_of (times_in vs)) (pos 9 ∷ pos 9 ∷ []))
    (stored (rates_of (rates_in vs)) (9 ∷ 9 ∷ []))

unfoldable pub row_cases : List (Case RowsRead)
row_cases =
    case "X = (" ("0 -1E-6 25.0E-9" ∷ "600 0.000001 0.00000003 )" ∷ []) (rows (filled true 6 true true) (0 ∷ 600 ∷ []) (negsuc 999 ∷ pos 1000 ∷ []) (25_000 ∷ 30_000 ∷ []))
    -- the least time, and one below it
    ∷ case "X = (0 -9223372036.854775808 1)" [] (rows (filled true 3 true true) (0 ∷ 9 ∷ []) (negsuc 9223372036854775807 ∷ pos 9 ∷ []) (1_000_000_000_000 ∷ 9 ∷ []))
    ∷ case "X = (0 -9223372036.854775809 1)" [] (rows (filled true 3 true false) (0 ∷ 9 ∷ []) (pos 0 ∷ pos 9 ∷ []) (1_000_000_000_000 ∷ 9 ∷ []))
    ∷ case "X = (0 9223372036.854775807 1)" [] (rows (filled true 3 true true) (0 ∷ 9 ∷ []) (pos 9223372036854775807 ∷ pos 9 ∷ []) (1_000_000_000_000 ∷ 9 ∷ []))
    -- a rate of 25.0001 ps, and one below 0
    ∷ case "X = (0 0 25.0001E-12)" [] (rows (filled true 3 true false) (0 ∷ 9 ∷ []) (pos 0 ∷ pos 9 ∷ []) (0 ∷ 9 ∷ []))
    ∷ case "X = (0 0 -25E-9)" [] (rows (filled true 3 true false) (0 ∷ 9 ∷ []) (pos 0 ∷ pos 9 ∷ []) (0 ∷ 9 ∷ []))
    -- a surplus coefficient has the unit of its place in its row, with or without room
    ∷ case "X = (0 0 1 700 0.0000000001)" [] (rows (filled true 5 true false) (0 ∷ 700 ∷ []) (pos 0 ∷ pos 0 ∷ []) (1_000_000_000_000 ∷ 9 ∷ []))
    ∷ case "X = (0 0 1 1 1 1 0.5)" [] (rows (filled true 7 true false) (0 ∷ 1 ∷ []) (pos 0 ∷ pos 1_000_000_000 ∷ []) (1_000_000_000_000 ∷ 1_000_000_000_000 ∷ []))
    ∷ []

pub rows_hold : map (λ c. rows_of c.line c.after) row_cases ≡ map (λ c. c.expected) row_cases
unfolding reading stored signed_or0 rows_read filled case rows rows_of row_cases
rows_hold = refl

unfoldable pub one : Bool → Bool → Number → One
one p s n = record { plain = p; single = s; number = n }

unfoldable pub ones : List (Case One)
ones =
    case "X = 1.0D0" [] (one true true (Plus 1))
    ∷ case "X += ( -1 )" [] (one false true (Minus 1))
    ∷ case "X = ( 2.5 2 )" [] (one true false Inexact)
    ∷ case "X = @2026-11-16" [] (one true true Malformed)
    ∷ case "X = 'a b'" [] (one true true Malformed)
    ∷ case "X =" ("1" ∷ []) (one true false Malformed)
    ∷ []

pub ones_hold : map (λ c. one_read (bytes c.line) (map bytes c.after)) ones ≡ map (λ c. c.expected) ones
unfolding reading first_number one_read case one ones
ones_hold = refl
