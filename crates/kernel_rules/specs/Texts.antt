-- Whole texts: the first line, the ends of lines, clock numbers, and the lent lists.
use Rattle.std.specs.Prelude.{ℕ, ◌≡◌, refl, List, [], ◌∷◌, ◌++◌, map, ℤ, pos, negsuc, replicate}
use Prim.Native.String.{String}
use Rattle.rules.specs.Answer.{Answer, refuse, refuse_at}
use Rattle.rules.specs.Examples.{bytes}
use Rattle.kernel_rules.specs.Tables.{Lists, Tables}
use Rattle.kernel_rules.specs.Kernel.{read_kernel, lists_after}
use Rattle.kernel_rules.specs.Examples.{tables_a}
use Rattle.kernel_rules.specs.Edits.{read_lines, short_a, instead, unchanged, editing}

unfoldable pub read_text : List ℕ → Answer Tables
read_text s = read_kernel s (pos 77) tables_a.lists

-- The first line: exactly KPL/SCLK, blanks and one 13 behind it dropped. A good one with nothing behind it is refused 19, names are missing.
pub first_line :
    map read_text
    (bytes "KPL/SCLK"
    ∷ (bytes "KPL/SCLK" ++ (10 ∷ []))
    ∷ bytes "KPL/SCLK  "
    ∷ (bytes "KPL/SCLK" ++ (13 ∷ []))
    ∷ (bytes "KPL/SCLK " ++ (13 ∷ 32 ∷ 10 ∷ 10 ∷ []))
    ∷ [])
    ≡ (refuse 19 ∷ refuse 19 ∷ refuse 19 ∷ refuse 19 ∷ refuse 19 ∷ [])
unfolding editing read_text
first_line = refl

pub first_line_wrong :
    map read_text
    ([]
    ∷ (10 ∷ bytes "KPL/SCLK")
    ∷ bytes " KPL/SCLK"
    ∷ (9 ∷ bytes "KPL/SCLK")
    ∷ (bytes "KPL/SCLK" ++ (9 ∷ []))
    ∷ (bytes "KPL/SCLK" ++ (13 ∷ 13 ∷ []))
    ∷ bytes "kpl/sclk"
    ∷ bytes "KPL/SCL"
    ∷ bytes "KPL/SCLKS"
    ∷ bytes "KPL/LSK"
    ∷ [])
    ≡ (refuse 18 ∷ refuse 18 ∷ refuse 18 ∷ refuse 18 ∷ refuse 18 ∷ refuse 18 ∷ refuse 18 ∷ refuse 18 ∷ refuse 18 ∷ refuse 18 ∷ [])
unfolding editing read_text
first_line_wrong = refl

-- every line ended by these bytes, the last one not
unfoldable pub ended_by : List ℕ → List String → List ℕ
ended_by e [] = []
ended_by e (l ∷ []) = bytes l
ended_by e (l ∷ m ∷ ls) = bytes l ++ e ++ ended_by e (m ∷ ls)

pub line_ends : map (λ e. read_text (ended_by e short_a)) ((10 ∷ []) ∷ (32 ∷ 13 ∷ 32 ∷ 10 ∷ []) ∷ []) ≡ (unchanged ∷ unchanged ∷ [])
unfolding editing read_text ended_by
line_ends = refl

-- "names that .. end in the given clock's number without its sign"
unfoldable pub lines_of_clock : String → List (List ℕ)
lines_of_clock d =
    bytes "KPL/SCLK"
    ∷ bytes "\\begindata"
    ∷ bytes "SCLK_KERNEL_ID = 1"
    ∷ (bytes "SCLK_DATA_TYPE_" ++ bytes d ++ bytes " = 1")
    ∷ (bytes "SCLK01_TIME_SYSTEM_" ++ bytes d ++ bytes " = 2")
    ∷ (bytes "SCLK01_N_FIELDS_" ++ bytes d ++ bytes " = 2")
    ∷ (bytes "SCLK01_MODULI_" ++ bytes d ++ bytes " = ( 100 10 )")
    ∷ (bytes "SCLK01_OFFSETS_" ++ bytes d ++ bytes " = ( 0 0 )")
    ∷ (bytes "SCLK01_OUTPUT_DELIM_" ++ bytes d ++ bytes " = 1")
    ∷ (bytes "SCLK01_COEFFICIENTS_" ++ bytes d ++ bytes " = ( 0 -1E-6 25E-9 600 1E-6 30E-9 )")
    ∷ (bytes "SCLK_PARTITION_START_" ++ bytes d ++ bytes " = ( 0 200 )")
    ∷ (bytes "SCLK_PARTITION_END_" ++ bytes d ++ bytes " = ( 500 900 )")
    ∷ []

pub record Clock : Type 0 where
  pub digits : String
  pub clock : ℤ
  pub expected : Answer Tables

unfoldable pub clock_case : String → ℤ → Answer Tables → Clock
clock_case d c a = record { digits = d; clock = c; expected = a }

-- A number of 12 digits makes a name of 33 bytes. The last two are the least and the greatest of 64 bits.
unfoldable pub clocks : List Clock
clocks =
    clock_case "77" (pos 77) unchanged
    ∷ clock_case "77" (negsuc 76) unchanged
    ∷ clock_case "0" (pos 0) unchanged
    ∷ clock_case "10" (negsuc 9) unchanged
    ∷ clock_case "-77" (negsuc 76) (refuse 19)
    ∷ clock_case "077" (pos 77) (refuse 19)
    ∷ clock_case "77" (pos 7) (refuse 19)
    ∷ clock_case "7" (pos 77) (refuse 19)
    ∷ clock_case "12345678901" (negsuc 12_345_678_900) unchanged
    ∷ clock_case "123456789012" (pos 123_456_789_012) (refuse 19)
    ∷ clock_case "9223372036854775808" (negsuc 9_223_372_036_854_775_807) (refuse 19)
    ∷ clock_case "9223372036854775807" (pos 9_223_372_036_854_775_807) (refuse 19)
    ∷ []

pub clocks_hold : map (λ c. read_lines (lines_of_clock c.digits) c.clock tables_a.lists) clocks ≡ map (λ c. c.expected) clocks
unfolding editing lines_of_clock clock_case clocks
clocks_hold = refl

-- 16 "a lent list too short": each needs room for its own numbers, table A's 2. Lists of nines, of these lengths:
unfoldable pub nines : ℕ → ℕ → ℕ → ℕ → ℕ → ℕ → ℕ → Lists
nines m o s e c t r =
    record {
      moduli = replicate m 9;
      offsets = replicate o 9;
      starts = replicate s 9;
      ends = replicate e 9;
      counts = replicate c 9;
      times = replicate t (pos 9);
      rates = replicate r 9;
    }

unfoldable pub too_short : List Lists
too_short =
    nines 1 2 2 2 2 2 2
    ∷ nines 2 1 2 2 2 2 2
    ∷ nines 2 2 1 2 2 2 2
    ∷ nines 2 2 2 1 2 2 2
    ∷ nines 2 2 2 2 1 2 2
    ∷ nines 2 2 2 2 2 1 2
    ∷ nines 2 2 2 2 2 2 1
    ∷ nines 9 9 9 9 9 9 0
    ∷ []

unfoldable pub read_into : Lists → Answer Tables
read_into lent = read_lines (map bytes short_a) (pos 77) lent

pub too_short_lem : map read_into too_short ≡ map (λ lent. refuse 16) too_short
unfolding editing nines too_short read_into
too_short_lem = refl

-- and none is written
pub none_written : map (λ lent. lists_after (read_into lent) lent) too_short ≡ too_short
unfolding editing nines too_short read_into
none_written = refl

-- longer ones keep their rest
pub rest_kept :
    (read_into (nines 2 3 4 2 3 4 5) ≡ unchanged)
    × (lists_after (read_into (nines 2 3 4 2 3 4 5)) (nines 2 3 4 2 3 4 5)
    ≡ record {
      moduli = 100 ∷ 10 ∷ [];
      offsets = 0 ∷ 0 ∷ 9 ∷ [];
      starts = 0 ∷ 200 ∷ 9 ∷ 9 ∷ [];
      ends = 500 ∷ 900 ∷ [];
      counts = 0 ∷ 600 ∷ 9 ∷ [];
      times = negsuc 999 ∷ pos 1000 ∷ pos 9 ∷ pos 9 ∷ [];
      rates = 25_000 ∷ 30_000 ∷ 9 ∷ 9 ∷ 9 ∷ [];
    })
unfolding editing nines read_into
rest_kept = (refl, refl)

-- 3 before 16, however short the lists are
pub sixteen_last : read_lines (instead 12 "600 1E-6 9E-9 )") (pos 77) (nines 0 0 0 0 0 0 0) ≡ refuse_at 3 1
unfolding editing nines
sixteen_last = refl
