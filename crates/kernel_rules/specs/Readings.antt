-- How the request is read where a second reader could read it otherwise, over whole texts: table A as a short kernel with lines changed.
use Rattle.std.specs.Prelude.{ℕ, ◌≡◌, refl, List, [], ◌∷◌, ◌++◌, map}
use Rattle.rules.specs.Answer.{Answer, answer, refuse, refuse_at}
use Rattle.kernel_rules.specs.Tables.{Tables}
use Rattle.kernel_rules.specs.Examples.{tables_a}
use Rattle.kernel_rules.specs.Edits.{Case, replaced, instead, without, before, coefficients, each, unchanged, read_case, editing}

-- Other names are passed over, wherever they stand. A line of any data block that the form forbids is not.
unfoldable pub other_names : List Case
other_names =
    each unchanged
    (replaced 8 0 ("X = 1" ∷ "X = 1" ∷ "X += ( 1 @a )" ∷ "SCLK_DATA_TYPE_7 = 'a'" ∷ "Y = 1E400" ∷ [])
    ∷ replaced 14 0 ("X = abc" ∷ "\\begindata" ∷ "X = ( 1" ∷ ")" ∷ [])
    ∷ [])
    ++ each (refuse 19) (before 8 "X = abc" ∷ before 13 "X =" ∷ replaced 14 0 ("\\begindata" ∷ "X = abc" ∷ []) ∷ [])

-- No list is open at a \begintext line or the text's end. The text's end ends a block; several blocks are as one; with none the names are missing.
unfoldable pub blocks : List Case
blocks =
    each (refuse 19)
    (instead 12 "600 1E-6 30E-9"
    ∷ replaced 12 2 ("600 1E-6 30E-9" ∷ [])
    ∷ replaced 12 0 ("\\begintext" ∷ "\\begindata" ∷ [])
    ∷ without 1
    ∷ replaced 1 13 []
    ∷ [])
    ++ each unchanged
    (before 8 "\\begindata"
    ∷ replaced 11 1 ("SCLK01_COEFFICIENTS_77=(" ∷ "\\begindata" ∷ "0 -1E-6" ∷ "\\begindata" ∷ "" ∷ "25.0E-9" ∷ [])
    ∷ without 13
    ∷ replaced 8 0 ("\\begintext" ∷ "X = (" ∷ "\\begintext" ∷ "\\begindata" ∷ [])
    ∷ [])

-- Names are compared byte for byte.
unfoldable pub name_bytes : List Case
name_bytes =
    each unchanged (map (before 8) ("sclk_kernel_id = 1" ∷ "SCLK_DATA_TYPE_077 = 3" ∷ "SCLK_DATA_TYPE = 3" ∷ "SCLK_DATA_TYPE_7 = 3" ∷ "SCLK_DATA_TYPE_770 = 3" ∷ "SCLK_KERNEL_ID_77 = 3" ∷ "SCLK_KERNEL_I = 3" ∷ []))
    ++ each (refuse 19) (instead 2 "sclk_kernel_id = 1" ∷ instead 3 "SCLK_DATA_TYPE_077 = 1" ∷ instead 2 "SCLK_KERNEL_ID_77 = 1" ∷ instead 3 "SCLK_DATA_TYPE_7 = 1" ∷ [])

-- SCLK_KERNEL_ID: one value of any kind, never converted.
unfoldable pub kernel_ids : List Case
kernel_ids =
    each unchanged (map (instead 2) ("SCLK_KERNEL_ID = 1E400" ∷ "SCLK_KERNEL_ID = ( 0.5 )" ∷ "SCLK_KERNEL_ID = 'a b'" ∷ "SCLK_KERNEL_ID=@" ∷ []))
    ++ each (refuse 19) (map (instead 2) ("SCLK_KERNEL_ID = a" ∷ "SCLK_KERNEL_ID = ( 1 2 )" ∷ "SCLK_KERNEL_ID = ('a','b')" ∷ "SCLK_KERNEL_ID += 1" ∷ []))
    ++ each (refuse 19) (before 8 "SCLK_KERNEL_ID = 1" ∷ [])

-- "another type or time system": the exact number is compared, and 20 is not given.
unfoldable pub in_system : ℕ → Answer Tables
in_system s = answer (record { n = tables_a.n; delimiter = tables_a.delimiter; system = s; lists = tables_a.lists })

unfoldable pub types_and_systems : List Case
types_and_systems =
    each unchanged (map (instead 3) ("SCLK_DATA_TYPE_77 = 1.0D0" ∷ "SCLK_DATA_TYPE_77 = 100E-2" ∷ []))
    ++ each (refuse 19) (map (instead 3) ("SCLK_DATA_TYPE_77 = 1.5" ∷ "SCLK_DATA_TYPE_77 = -1" ∷ "SCLK_DATA_TYPE_77 = 1E400" ∷ "SCLK_DATA_TYPE_77 = 0" ∷ "SCLK_DATA_TYPE_77 = 2" ∷ []))
    ++ each unchanged (instead 4 "SCLK01_TIME_SYSTEM_77 = .2E1" ∷ [])
    ++ each (in_system 1) (without 4 ∷ instead 4 "SCLK01_TIME_SYSTEM_77 = 1" ∷ [])
    ++ each (refuse 19) (map (instead 4) ("SCLK01_TIME_SYSTEM_77 = 1.5" ∷ "SCLK01_TIME_SYSTEM_77 = -2" ∷ "SCLK01_TIME_SYSTEM_77 = 1E400" ∷ "SCLK01_TIME_SYSTEM_77 = 0" ∷ "SCLK01_TIME_SYSTEM_77 = 3" ∷ []))

-- "exactly": of the decimal as written, however many digits and whatever exponent. "their 64 bits": times signed, all others unsigned.
unfoldable pub with_rate : ℕ → Answer Tables
with_rate r =
    let g = tables_a.lists in
    answer
    (record {
      n = tables_a.n;
      delimiter = tables_a.delimiter;
      system = tables_a.system;
      lists =
          record {
            moduli = g.moduli;
            offsets = g.offsets;
            starts = g.starts;
            ends = g.ends;
            counts = g.counts;
            times = g.times;
            rates = r ∷ 30_000 ∷ [];
          };
    })

unfoldable pub exactly : List Case
exactly =
    each unchanged
    (instead 10 "SCLK_PARTITION_END_77=(500,90000000000000000000000000000000000000000000000000000000000000000000000000000000000E-80)"
    ∷ instead 9 "SCLK_PARTITION_START_77 = ( -0 +200 )"
    ∷ instead 9 "SCLK_PARTITION_START_77 = ( 0E99999999999999999999 200 )"
    ∷ instead 9 "SCLK_PARTITION_START_77 = ( -0.0D-99999999999999999999 .2e3 )"
    ∷ coefficients ("0 -.000001 25.E-9 600 1d-6 3e-8 )" ∷ [])
    ∷ [])
    ++ each (with_rate 25_001) (coefficients ("0 -1E-6 25.001E-9 600 1E-6 30E-9 )" ∷ []) ∷ [])
    ++ each (refuse 20)
    (coefficients ("0 -1E-6 25.0001E-9 600 1E-6 30E-9 )" ∷ [])
    ∷ coefficients ("0 -1E-6 -25E-9 600 1E-6 30E-9 )" ∷ [])
    ∷ coefficients ("0 -1E-6 1E99999999999999999999 600 1E-6 30E-9 )" ∷ [])
    ∷ coefficients ("0 -1E-6 1E-99999999999999999999 600 1E-6 30E-9 )" ∷ [])
    ∷ coefficients ("0 -9223372036.854775809 25E-9 600 1E-6 30E-9 )" ∷ [])
    ∷ coefficients ("0 9223372036.854775808 25E-9 600 1E-6 30E-9 )" ∷ [])
    ∷ instead 9 "SCLK_PARTITION_START_77 = ( 0.5 200 )"
    ∷ instead 9 "SCLK_PARTITION_START_77 = ( -1 200 )"
    ∷ instead 9 "SCLK_PARTITION_START_77 = ( 18446744073709551616 200 )"
    ∷ instead 5 "SCLK01_N_FIELDS_77 = 2.5"
    ∷ instead 5 "SCLK01_N_FIELDS_77 = -2"
    ∷ [])
    ++ each (refuse_at 3 0)
    (coefficients ("0 -1E-6 0E99999999999999999999 600 1E-6 30E-9 )" ∷ [])
    ∷ coefficients ("0 -9223372036.854775808 25E-9 600 1E-6 30E-9 )" ∷ [])
    ∷ coefficients ("0 9223372036.854775807 25E-9 600 1E-6 30E-9 )" ∷ [])
    ∷ [])
    ++ each (refuse_at 2 0) (instead 9 "SCLK_PARTITION_START_77 = ( 18446744073709551615 200 )" ∷ [])

-- "not in threes" comes after every 20 and gives the shortest of the three lists; a surplus coefficient has the unit of its place in its row.
unfoldable pub threes : List Case
threes =
    each (refuse_at 3 2)
    (coefficients ("0 -1E-6 25E-9 600 1E-6 30E-9 700 )" ∷ [])
    ∷ coefficients ("0 -1E-6 25E-9 600 1E-6 30E-9 700 1 )" ∷ [])
    ∷ [])
    ++ each (refuse_at 3 0) (coefficients ("0 )" ∷ []) ∷ [])
    ++ each (refuse 20)
    (coefficients ("0 -1E-6 25E-9 600 1E-6 30E-9 700 0.0000000001 )" ∷ [])
    ∷ coefficients ("0 -1E-6 25E-9 600 1E-6 30E-9 0.5 )" ∷ [])
    ∷ [])

-- 2 and 3 at "the first row, from 0, that breaks a rule", or at "the shortest length"
unfoldable pub places : List Case
places =
    each (refuse_at 2 1)
    (instead 9 "SCLK_PARTITION_START_77 = ( 0 900 )"
    ∷ instead 10 "SCLK_PARTITION_END_77 = ( 500 1000 )"
    ∷ instead 10 "SCLK_PARTITION_END_77 = ( 1000 )"
    ∷ instead 9 "SCLK_PARTITION_START_77 = 600"
    ∷ [])
    ++ each (refuse_at 2 2) (instead 9 "SCLK_PARTITION_START_77 = ( 600 200 300 )" ∷ [])
    ++ each (refuse_at 3 1)
    (coefficients ("0 -1E-6 25E-9 600 -1E-6 30E-9 )" ∷ [])
    ∷ coefficients ("0 -1E-6 25E-9 600 1E-6 30E-10 )" ∷ [])
    ∷ coefficients ("0 -1E-6 25E-9 1201 1E-6 30E-9 )" ∷ [])
    ∷ [])
    ++ each (refuse_at 3 0) (coefficients ("0 -1E-6 25E-9 18446744073709551615 1E-6 30E-9 )" ∷ []) ∷ [])

unfoldable pub readings : List Case
readings = other_names ++ blocks ++ name_bytes ++ kernel_ids ++ types_and_systems ++ exactly ++ threes ++ places

pub readings_hold : map read_case readings ≡ map (λ c. c.expected) readings
unfolding editing other_names blocks name_bytes kernel_ids in_system types_and_systems with_rate exactly threes places readings
readings_hold = refl
