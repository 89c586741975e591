-- Descriptions of tables, worked out by hand: one table of cases.
use Rattle.std.specs.Prelude.{ℕ, ◌≡◌, refl, Bool, true, false, List, [], ◌∷◌, ◌++◌, map, ℤ, pos, negsuc}
use Prim.Native.String.{String}
use Rattle.rules.specs.Partitions.{partitions}
use Rattle.rules.specs.Segments.{segments}
use Rattle.rules.specs.Examples.{layout_a, layout_b}
use Rattle.versions.specs.Versions.{Table}
use Rattle.versions.specs.Needed.{clock, under, table, table_a}
use Rattle.command_rules.specs.Describe.{describe_text}
use Rattle.command_rules.specs.Computing.{command}
use Rattle.command_rules.specs.Examples.{row}

unfoldable pub rows : List (List String) → List ℕ
rows [] = []
rows (r ∷ rs) = row r ++ rows rs

-- a clock's number, time system, `--seconds` or not, table; and what is printed
pub record Described : Type 0 where
  pub number : ℤ
  pub system : ℕ
  pub seconds : Bool
  pub table : Table
  pub printed : List ℕ

abbrev pub described : ℤ → ℕ → Bool → Table → List (List String) → Described
described c s b t p = record { number = c; system = s; seconds = b; table = t; printed = rows p }

-- The lines reach -747 at 101, -450 at 200, -187 at 301, 62 at 401: no jump, a gap, a step back, a gap.
abbrev pub jumps : Table
jumps =
    table
    layout_a
    (partitions (0 ∷ 200 ∷ 100 ∷ []) (500 ∷ 900 ∷ 150 ∷ []))
    (segments
    (0 ∷ 101 ∷ 200 ∷ 301 ∷ 401 ∷ [])
    (negsuc 999 ∷ negsuc 746 ∷ negsuc 439 ∷ negsuc 187 ∷ pos 70 ∷ [])
    (25_000 ∷ 30_000 ∷ 25_000 ∷ 25_000 ∷ 30_000 ∷ []))

-- A first-field count is 48,000 ticks. The lines reach -2 s at 48,000, where 10.5 s follow, and 12 s at 96,000, where 10.75 s follow.
abbrev pub whole_seconds : Table
whole_seconds =
    table
    layout_b
    (partitions (0 ∷ []) (1_000_000_000 ∷ []))
    (segments
    (0 ∷ 48_000 ∷ 96_000 ∷ [])
    (negsuc 2_999_999_999 ∷ pos 10_500_000_000 ∷ pos 10_750_000_000 ∷ [])
    (1_000_000_000_000 ∷ 1_500_000_000_000 ∷ 12_000_000_000_034 ∷ []))

-- what follows the layout's lines of a table of one field, partition 0..1 and segment (0, 0, 1000)
abbrev pub small_rows : List (List String)
small_rows =
    ("partition" ∷ "1" ∷ "0" ∷ "1" ∷ "0" ∷ [])
    ∷ ("segment" ∷ "0" ∷ "0" ∷ "0" ∷ "1000" ∷ [])
    ∷ ("fields" ∷ "1" ∷ [])
    ∷ ("partitions" ∷ "1" ∷ [])
    ∷ ("total" ∷ "1" ∷ [])
    ∷ ("segments" ∷ "1" ∷ [])
    ∷ ("gaps" ∷ "0" ∷ [])
    ∷ ("steps back" ∷ "0" ∷ [])
    ∷ []

unfoldable pub cases : List Described
cases =
    -- the line reaches 500 at 600, where 1000 follow
    described (negsuc 76) 1 false table_a
    (("clock" ∷ "-77" ∷ [])
    ∷ ("time system" ∷ "1" ∷ "TDB" ∷ [])
    ∷ ("delimiter" ∷ "1" ∷ "." ∷ [])
    ∷ ("field" ∷ "1" ∷ "100" ∷ "0" ∷ [])
    ∷ ("field" ∷ "2" ∷ "10" ∷ "0" ∷ [])
    ∷ ("partition" ∷ "1" ∷ "0" ∷ "500" ∷ "0" ∷ [])
    ∷ ("partition" ∷ "2" ∷ "200" ∷ "900" ∷ "500" ∷ [])
    ∷ ("segment" ∷ "0" ∷ "0" ∷ "-1000" ∷ "25000" ∷ "gap" ∷ "500" ∷ [])
    ∷ ("segment" ∷ "1" ∷ "600" ∷ "1000" ∷ "30000" ∷ [])
    ∷ ("fields" ∷ "2" ∷ [])
    ∷ ("partitions" ∷ "2" ∷ [])
    ∷ ("total" ∷ "1200" ∷ [])
    ∷ ("segments" ∷ "2" ∷ [])
    ∷ ("gaps" ∷ "1" ∷ [])
    ∷ ("steps back" ∷ "0" ∷ [])
    ∷ [])
    ∷ described (negsuc 730) 2 false jumps
    (("clock" ∷ "-731" ∷ [])
    ∷ ("time system" ∷ "2" ∷ "TDT" ∷ [])
    ∷ ("delimiter" ∷ "1" ∷ "." ∷ [])
    ∷ ("field" ∷ "1" ∷ "100" ∷ "0" ∷ [])
    ∷ ("field" ∷ "2" ∷ "10" ∷ "0" ∷ [])
    ∷ ("partition" ∷ "1" ∷ "0" ∷ "500" ∷ "0" ∷ [])
    ∷ ("partition" ∷ "2" ∷ "200" ∷ "900" ∷ "500" ∷ [])
    ∷ ("partition" ∷ "3" ∷ "100" ∷ "150" ∷ "1200" ∷ [])
    ∷ ("segment" ∷ "0" ∷ "0" ∷ "-1000" ∷ "25000" ∷ [])
    ∷ ("segment" ∷ "1" ∷ "101" ∷ "-747" ∷ "30000" ∷ "gap" ∷ "10" ∷ [])
    ∷ ("segment" ∷ "2" ∷ "200" ∷ "-440" ∷ "25000" ∷ "back" ∷ "1" ∷ [])
    ∷ ("segment" ∷ "3" ∷ "301" ∷ "-188" ∷ "25000" ∷ "gap" ∷ "8" ∷ [])
    ∷ ("segment" ∷ "4" ∷ "401" ∷ "70" ∷ "30000" ∷ [])
    ∷ ("fields" ∷ "2" ∷ [])
    ∷ ("partitions" ∷ "3" ∷ [])
    ∷ ("total" ∷ "1250" ∷ [])
    ∷ ("segments" ∷ "5" ∷ [])
    ∷ ("gaps" ∷ "2" ∷ [])
    ∷ ("steps back" ∷ "1" ∷ [])
    ∷ [])
    ∷ described (pos 0) 1 true whole_seconds
    (("clock" ∷ "0" ∷ [])
    ∷ ("time system" ∷ "1" ∷ "TDB" ∷ [])
    ∷ ("delimiter" ∷ "2" ∷ ":" ∷ [])
    ∷ ("field" ∷ "1" ∷ "65536" ∷ "0" ∷ [])
    ∷ ("field" ∷ "2" ∷ "60" ∷ "0" ∷ [])
    ∷ ("field" ∷ "3" ∷ "800" ∷ "1" ∷ [])
    ∷ ("partition" ∷ "1" ∷ "0" ∷ "1000000000" ∷ "0" ∷ [])
    ∷ ("segment" ∷ "0" ∷ "0" ∷ "-3.000000000" ∷ "1.000000000000" ∷ "gap" ∷ "12.500000000" ∷ [])
    ∷ ("segment" ∷ "1" ∷ "48000" ∷ "10.500000000" ∷ "1.500000000000" ∷ "back" ∷ "1.250000000" ∷ [])
    ∷ ("segment" ∷ "2" ∷ "96000" ∷ "10.750000000" ∷ "12.000000000034" ∷ [])
    ∷ ("fields" ∷ "3" ∷ [])
    ∷ ("partitions" ∷ "1" ∷ [])
    ∷ ("total" ∷ "1000000000" ∷ [])
    ∷ ("segments" ∷ "3" ∷ [])
    ∷ ("gaps" ∷ "1" ∷ [])
    ∷ ("steps back" ∷ "1" ∷ [])
    ∷ [])
    -- the other delimiters, with the largest offset and a small one
    ∷ described (pos 12) 2 false (under (clock 1 3 1 1_000 3))
    (("clock" ∷ "12" ∷ [])
    ∷ ("time system" ∷ "2" ∷ "TDT" ∷ [])
    ∷ ("delimiter" ∷ "3" ∷ "-" ∷ [])
    ∷ ("field" ∷ "1" ∷ "3" ∷ "1000" ∷ [])
    ∷ small_rows)
    ∷ described (pos 12) 2 false (under (clock 1 3 1 7 4))
    (("clock" ∷ "12" ∷ [])
    ∷ ("time system" ∷ "2" ∷ "TDT" ∷ [])
    ∷ ("delimiter" ∷ "4" ∷ "," ∷ [])
    ∷ ("field" ∷ "1" ∷ "3" ∷ "7" ∷ [])
    ∷ small_rows)
    ∷ described (pos 12) 2 false (under (clock 1 3 1 0 5))
    (("clock" ∷ "12" ∷ [])
    ∷ ("time system" ∷ "2" ∷ "TDT" ∷ [])
    ∷ ("delimiter" ∷ "5" ∷ " " ∷ [])
    ∷ ("field" ∷ "1" ∷ "3" ∷ "0" ∷ [])
    ∷ small_rows)
    ∷ []

pub cases_hold : map (λ (d : Described). describe_text d.number d.system d.seconds d.table) cases ≡ map (λ (d : Described). d.printed) cases
unfolding command layout_b row rows cases
cases_hold = refl
