-- Each clause of each refusal by a case of its own, and the order of the refusals: table A as a short kernel with lines changed.
use Rattle.std.specs.Prelude.{◌≡◌, refl, List, [], ◌∷◌, ◌++◌, map}
use Rattle.rules.specs.Answer.{refuse, refuse_at}
use Rattle.kernel_rules.specs.Edits.{Case, replaced, instead, without, before, coefficients, each, unchanged, read_case, editing}

-- 19 "a name missing, given twice, with `+=`": each of the ten. A time system may be missing.
unfoldable pub missing : List Case
missing = each (refuse 19) (map without (2 ∷ 3 ∷ 5 ∷ 6 ∷ 7 ∷ 8 ∷ 9 ∷ 10 ∷ []) ++ (replaced 11 2 [] ∷ []))

unfoldable pub twice : List Case
twice =
    each (refuse 19)
    (map (before 11)
    ("SCLK_KERNEL_ID = @2026-11-16"
    ∷ "SCLK_DATA_TYPE_77 = 1"
    ∷ "SCLK01_TIME_SYSTEM_77 = 2"
    ∷ "SCLK01_N_FIELDS_77 = 2"
    ∷ "SCLK01_MODULI_77 = ( 100 10 )"
    ∷ "SCLK01_OFFSETS_77 = ( 0 0 )"
    ∷ "SCLK01_OUTPUT_DELIM_77 = 1"
    ∷ "SCLK_PARTITION_START_77 = ( 0 200 )"
    ∷ "SCLK_PARTITION_END_77 = ( 500 900 )"
    ∷ "SCLK01_COEFFICIENTS_77 = ( 0 -1E-6 25E-9 600 1E-6 30E-9 )"
    ∷ [])
    ++ (replaced 14 0 ("\\begindata" ∷ "SCLK01_N_FIELDS_77 += 2" ∷ []) ∷ []))

unfoldable pub plus : List Case
plus =
    each (refuse 19)
    (instead 2 "SCLK_KERNEL_ID += @2026-11-16"
    ∷ instead 3 "SCLK_DATA_TYPE_77 += 1"
    ∷ instead 4 "SCLK01_TIME_SYSTEM_77 += 2"
    ∷ instead 5 "SCLK01_N_FIELDS_77 += 2"
    ∷ instead 6 "SCLK01_MODULI_77 += ( 100 10 )"
    ∷ instead 7 "SCLK01_OFFSETS_77 += ( 0 0 )"
    ∷ instead 8 "SCLK01_OUTPUT_DELIM_77+=1"
    ∷ instead 9 "SCLK_PARTITION_START_77 += ( 0 200 )"
    ∷ instead 10 "SCLK_PARTITION_END_77 += ( 500 900 )"
    ∷ instead 11 "SCLK01_COEFFICIENTS_77 += (0 -1E-6 25E-9"
    ∷ [])

-- 19 "with several values outside the five lists or, but for the ID, one that is no number". One value by itself is as a list of one.
unfoldable pub no_number : List Case
no_number =
    each (refuse 19)
    (instead 2 "SCLK_KERNEL_ID = ( @a @b )"
    ∷ instead 3 "SCLK_DATA_TYPE_77 = ( 1 1 )"
    ∷ instead 4 "SCLK01_TIME_SYSTEM_77 = ( 2, 2 )"
    ∷ instead 5 "SCLK01_N_FIELDS_77 = ( 2 2 )"
    ∷ instead 8 "SCLK01_OUTPUT_DELIM_77 = ( 1 1 )"
    ∷ instead 3 "SCLK_DATA_TYPE_77 = '1'"
    ∷ instead 3 "SCLK_DATA_TYPE_77 = @1"
    ∷ instead 4 "SCLK01_TIME_SYSTEM_77 = '2'"
    ∷ instead 4 "SCLK01_TIME_SYSTEM_77 = @2"
    ∷ instead 5 "SCLK01_N_FIELDS_77 = ( '2' )"
    ∷ instead 5 "SCLK01_N_FIELDS_77 = @"
    ∷ instead 6 "SCLK01_MODULI_77 = ( 100 @10 )"
    ∷ instead 7 "SCLK01_OFFSETS_77 = ( '0' '0' )"
    ∷ instead 8 "SCLK01_OUTPUT_DELIM_77 = @1"
    ∷ instead 9 "SCLK_PARTITION_START_77 = ( @0 200 )"
    ∷ instead 10 "SCLK_PARTITION_END_77 = ( '500', '900' )"
    ∷ coefficients ("0 -1E-6 @25E-9" ∷ "600 1E-6 30E-9)" ∷ [])
    ∷ [])
    ++ each unchanged (instead 5 "SCLK01_N_FIELDS_77=2" ∷ instead 8 "SCLK01_OUTPUT_DELIM_77 = 1" ∷ [])
    ++ each (refuse 1) (instead 6 "SCLK01_MODULI_77 = 100" ∷ [])

-- 20 "a number not exact in our units or outside their 64 bits": ticks and whole numbers, nanoseconds, picoseconds
unfoldable pub inexact : List Case
inexact =
    each (refuse 20)
    (instead 5 "SCLK01_N_FIELDS_77 = 18446744073709551616"
    ∷ instead 6 "SCLK01_MODULI_77 = ( 100 10.5 )"
    ∷ instead 6 "SCLK01_MODULI_77 = ( 100 -10 )"
    ∷ instead 7 "SCLK01_OFFSETS_77 = ( 0.1 0 )"
    ∷ instead 7 "SCLK01_OFFSETS_77 = ( 0 -1 )"
    ∷ instead 8 "SCLK01_OUTPUT_DELIM_77 = 1.5"
    ∷ instead 8 "SCLK01_OUTPUT_DELIM_77 = -1"
    ∷ instead 10 "SCLK_PARTITION_END_77 = ( 500 900.5 )"
    ∷ instead 10 "SCLK_PARTITION_END_77 = ( 500 1E20 )"
    ∷ coefficients ("0.5 -1E-6 25E-9" ∷ "600 1E-6 30E-9)" ∷ [])
    ∷ coefficients ("-1 -1E-6 25E-9" ∷ "600 1E-6 30E-9)" ∷ [])
    ∷ coefficients ("0 -1.1E-9 25E-9" ∷ "600 1E-6 30E-9)" ∷ [])
    ∷ coefficients ("0 -1E10 25E-9" ∷ "600 1E-6 30E-9)" ∷ [])
    ∷ coefficients ("0 -1E-6 25E-13" ∷ "600 1E-6 30E-9)" ∷ [])
    ∷ coefficients ("0 -1E-6 18446744.073709551616" ∷ "600 1E-6 30E-9)" ∷ [])
    ∷ [])

-- 1 "(also lists not n long)", 2, 3 "(also not in threes)": the shortest of unequal lists, or the first row that breaks a rule
unfoldable pub tables : List Case
tables =
    each (refuse 1)
    (instead 5 "SCLK01_N_FIELDS_77 = 1"
    ∷ instead 5 "SCLK01_N_FIELDS_77 = 3"
    ∷ instead 5 "SCLK01_N_FIELDS_77 = 11"
    ∷ instead 6 "SCLK01_MODULI_77 = ( 100 10 1 )"
    ∷ instead 6 "SCLK01_MODULI_77 = ( 100 0 )"
    ∷ instead 7 "SCLK01_OFFSETS_77 = ( 0 0 0 )"
    ∷ instead 7 "SCLK01_OFFSETS_77 = ( 0 )"
    ∷ instead 7 "SCLK01_OFFSETS_77 = ( 0 1001 )"
    ∷ instead 8 "SCLK01_OUTPUT_DELIM_77 = 0"
    ∷ instead 8 "SCLK01_OUTPUT_DELIM_77 = 6"
    ∷ instead 8 "SCLK01_OUTPUT_DELIM_77 = 257"
    ∷ replaced 5 3
    ("SCLK01_N_FIELDS_77 = 11" ∷ "SCLK01_MODULI_77 = ( 1 1 1 1 1 1 1 1 1 100 10 )" ∷ "SCLK01_OFFSETS_77 = ( 0 0 0 0 0 0 0 0 0 0 0 )" ∷ [])
    ∷ [])
    ++ each (refuse_at 2 1)
    (instead 9 "SCLK_PARTITION_START_77 = 0"
    ∷ instead 9 "SCLK_PARTITION_START_77 = ( 0 900 )"
    ∷ instead 10 "SCLK_PARTITION_END_77 = ( 500 1000 )"
    ∷ [])
    ++ each (refuse_at 2 2) (instead 10 "SCLK_PARTITION_END_77 = ( 500 900 950 )" ∷ [])
    ++ each (refuse_at 3 2) (instead 12 "600 1E-6 30E-9 700 )" ∷ instead 12 "600 1E-6 30E-9 700 2E-6 )" ∷ [])
    ++ each (refuse_at 3 1)
    (instead 12 "0 1E-6 30E-9 )"
    ∷ instead 12 "600 -1E-6 30E-9 )"
    ∷ instead 12 "600 1E-6 9.999E-9 )"
    ∷ instead 12 "1201 1E-6 30E-9 )"
    ∷ [])

-- The order: of two faults the one that is first in it is given, wherever they stand. The cases of 16 are in the Texts of kernel_rules.
unfoldable pub order : List Case
order =
    each (refuse 18) (replaced 0 1 ("KPL/CK" ∷ "\\begindata" ∷ "X =" ∷ []) ∷ replaced 0 6 ("" ∷ []) ∷ [])
    ++ each (refuse 19)
    (replaced 9 5 ("SCLK_PARTITION_START_77 = 0.5" ∷ "X =" ∷ [])
    ∷ replaced 8 2 ("X =" ∷ "SCLK_PARTITION_START_77 = 0.5" ∷ [])
    ∷ replaced 4 2 ("SCLK01_TIME_SYSTEM_77 = 3" ∷ "SCLK01_N_FIELDS_77 = 2.5" ∷ [])
    ∷ replaced 9 2 ("SCLK_PARTITION_START_77 = ( 0.5 200 )" ∷ "SCLK_PARTITION_END_77 = ( 500 '900' )" ∷ [])
    ∷ [])
    ++ each (refuse 20)
    (replaced 5 5 ("SCLK01_N_FIELDS_77 = 11" ∷ "SCLK01_MODULI_77 = 0" ∷ "SCLK01_OFFSETS_77 = 0" ∷ "SCLK01_OUTPUT_DELIM_77 = 9" ∷ "SCLK_PARTITION_START_77 = 0.5" ∷ [])
    ∷ coefficients ("600 0 0 0 0.0000000001 )" ∷ [])
    ∷ [])
    ++ each (refuse 1) (replaced 8 2 ("SCLK01_OUTPUT_DELIM_77 = 6" ∷ "SCLK_PARTITION_START_77 = ( 0 900 )" ∷ []) ∷ [])
    ++ each (refuse_at 2 1) (replaced 10 3 ("SCLK_PARTITION_END_77 = ( 500 200 )" ∷ "SCLK01_COEFFICIENTS_77 = 0" ∷ []) ∷ [])
    -- more rows than are lent, and a rate too low
    ++ each (refuse_at 3 2) (instead 12 "600 1E-6 30E-9 700 2E-6 9E-9 )" ∷ [])

unfoldable pub clauses : List Case
clauses = missing ++ twice ++ plus ++ no_number ++ inexact ++ tables ++ order

pub clauses_hold : map read_case clauses ≡ map (λ c. c.expected) clauses
unfolding editing missing twice plus no_number inexact tables order clauses
clauses_hold = refl
