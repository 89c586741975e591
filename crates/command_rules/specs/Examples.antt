-- Lines of one table, worked out by hand: one table of cases. CompareExamples has those of two tables, DescribeExamples the descriptions.
use Rattle.std.specs.Prelude.{ℕ, ◌≡◌, refl, Bool, true, false, List, [], ◌∷◌, ◌++◌, map, pos, replicate}
use Prim.Native.String.{String}
use Rattle.rules.specs.declared.Layout.{Layout}
use Rattle.rules.specs.Answer.{numbered, placed}
use Rattle.rules.specs.Partitions.{partitions}
use Rattle.rules.specs.Segments.{segments}
use Rattle.rules.specs.Examples.{bytes, layout_b}
use Rattle.versions.specs.Versions.{Table}
use Rattle.versions.specs.Needed.{table, table_a}
use Rattle.command_rules.specs.declared.Query.{Query}
use Rattle.command_rules.specs.declared.Query.TheVariants as Asked
use Rattle.command_rules.specs.Fields.{last_field, refusal_text}
use Rattle.command_rules.specs.Lines.{Line, line_of}
use Rattle.command_rules.specs.Computing.{command}

-- fields with tabs, byte 9, between them and byte 10 behind
unfoldable pub row : List String → List ℕ
row [] = []
row (s ∷ []) = bytes s ++ (10 ∷ [])
row (s ∷ t ∷ ss) = bytes s ++ (9 ∷ row (t ∷ ss))

pub record Case : Type 0 where
  pub asked : Query
  pub seconds : Bool
  pub input : List ℕ
  pub expected : Line

-- answered well, and not
abbrev pub good : Query → Bool → List ℕ → List String → Case
good q s i o = record { asked = q; seconds = s; input = i; expected = record { text = row o; well = true } }

abbrev pub bad : Query → Bool → List ℕ → List String → Case
bad q s i o = record { asked = q; seconds = s; input = i; expected = record { text = row o; well = false } }

-- cases of an older and a newer table; a query of one table asks the older
pub record Group : Type 0 where
  pub older : Table
  pub newer : Table
  pub cases : List Case

abbrev pub group : Table → Table → List Case → Group
group o n cs = record { older = o; newer = n; cases = cs }

unfoldable pub printed_of : Group → List Line
printed_of g = map (λ (c : Case). line_of c.asked c.seconds g.older g.newer c.input) g.cases

unfoldable pub expected_of : Group → List Line
expected_of g = map (λ (c : Case). c.expected) g.cases

-- moduli 65536, 60, 800, third offset 1, delimiter 2; a first-field count lasts a second
abbrev pub table_b : Table
table_b = table layout_b (partitions (0 ∷ []) (1_000_000_000 ∷ [])) (segments (0 ∷ []) (pos 788_961_660_000_000_000 ∷ []) (1_000_000_000_000 ∷ []))

-- five fields of modulus 10, delimiter 3; a tick lasts 1,000 ns
abbrev pub layout_five : Layout
layout_five =
    record {
      n = 5;
      moduli = replicate 10 10;
      offsets = replicate 10 0;
      delimiter = 3;
    }

abbrev pub table_five : Table
table_five = table layout_five (partitions (0 ∷ []) (99_999 ∷ [])) (segments (0 ∷ []) (pos 0 ∷ []) (10_000_000_000 ∷ []))

unfoldable pub groups : List Group
groups =
    group table_a table_b
    -- a stamp, with a byte 13 behind it, in seconds; 96 bytes and 97
    (good Asked.Time false (bytes "1/5.3") ("53" ∷ "-867" ∷ "1/05.3" ∷ [])
    ∷ good Asked.Time true (bytes "1/5.3" ++ (13 ∷ [])) ("53" ∷ "-0.000000867" ∷ "1/05.3" ∷ [])
    ∷ good Asked.Time false (bytes "50.1") ("801" ∷ "1603" ∷ "2/50.1" ∷ [])
    ∷ good Asked.Time false (replicate 93 48 ++ bytes "5.3") ("53" ∷ "-867" ∷ "1/05.3" ∷ [])
    ∷ bad Asked.Time false (replicate 97 48) ("refused" ∷ "4" ∷ "-" ∷ "the text is too long" ∷ [])
    -- refused with and without a place; no bytes; two bytes 13, of which one is dropped
    ∷ bad Asked.Time false (bytes "1/5x3") ("refused" ∷ "5" ∷ "3" ∷ "a byte that is not allowed" ∷ [])
    ∷ bad Asked.Time false (bytes "1/5.3" ++ (13 ∷ 13 ∷ [])) ("refused" ∷ "5" ∷ "5" ∷ "a byte that is not allowed" ∷ [])
    ∷ bad Asked.Time false [] ("refused" ∷ "6" ∷ "-" ∷ "the first field is missing" ∷ [])
    ∷ bad Asked.Time false (13 ∷ []) ("refused" ∷ "6" ∷ "-" ∷ "the first field is missing" ∷ [])
    ∷ bad Asked.Time false (bytes "1.2.3") ("refused" ∷ "7" ∷ "4" ∷ "too many fields" ∷ [])
    ∷ bad Asked.Time false (replicate 96 57) ("refused" ∷ "9" ∷ "0" ∷ "a number that is too large" ∷ [])
    ∷ bad Asked.Time false (bytes "3/1") ("refused" ∷ "10" ∷ "-" ∷ "no such partition" ∷ [])
    ∷ bad Asked.Time false (bytes "1/50.1") ("refused" ∷ "11" ∷ "-" ∷ "the count is in no such partition" ∷ [])
    -- the messages `50.1` and `1/5.3`, the latter in hex of either case, and behind 1,993 bytes of 0: 4,000 digits, with a byte 13 too
    ∷ good Asked.Messages false (bytes "35302e310004") ("801" ∷ "1603" ∷ "2/50.1" ∷ [])
    ∷ good Asked.Messages false (bytes "312F352e330005") ("53" ∷ "-867" ∷ "1/05.3" ∷ [])
    ∷ good Asked.Messages true (replicate 3_986 48 ++ bytes "312f352e330005") ("53" ∷ "-0.000000867" ∷ "1/05.3" ∷ [])
    ∷ bad Asked.Messages false (replicate 4_000 48 ++ (13 ∷ [])) ("refused" ∷ "22" ∷ "-" ∷ "a message without a text" ∷ [])
    -- 4,001 bytes, also where they are no hex digits; a digit missing; no hex digit, which comes first
    ∷ bad Asked.Messages false (replicate 4_001 48) ("refused" ∷ "4" ∷ "-" ∷ "the text is too long" ∷ [])
    ∷ bad Asked.Messages false (replicate 4_001 120) ("refused" ∷ "4" ∷ "-" ∷ "the text is too long" ∷ [])
    ∷ bad Asked.Messages false (bytes "312f3") ("refused" ∷ "5" ∷ "5" ∷ "a byte that is not allowed" ∷ [])
    ∷ bad Asked.Messages false (bytes "31g") ("refused" ∷ "5" ∷ "2" ∷ "a byte that is not allowed" ∷ [])
    -- the bytes beside the hex digits
    ∷ bad Asked.Messages false (bytes "0/") ("refused" ∷ "5" ∷ "1" ∷ "a byte that is not allowed" ∷ [])
    ∷ bad Asked.Messages false (bytes "9:") ("refused" ∷ "5" ∷ "1" ∷ "a byte that is not allowed" ∷ [])
    ∷ bad Asked.Messages false (bytes "A@") ("refused" ∷ "5" ∷ "1" ∷ "a byte that is not allowed" ∷ [])
    ∷ bad Asked.Messages false (bytes "FG") ("refused" ∷ "5" ∷ "1" ∷ "a byte that is not allowed" ∷ [])
    ∷ bad Asked.Messages false (bytes "a`") ("refused" ∷ "5" ∷ "1" ∷ "a byte that is not allowed" ∷ [])
    -- no message; a text of 0 bytes; one of more than there are; the place of a 5 counts from the stamp's first byte
    ∷ bad Asked.Messages false [] ("refused" ∷ "21" ∷ "-" ∷ "a message under two bytes" ∷ [])
    ∷ bad Asked.Messages false (bytes "0000") ("refused" ∷ "22" ∷ "-" ∷ "a message without a text" ∷ [])
    ∷ bad Asked.Messages false (bytes "310002") ("refused" ∷ "23" ∷ "-" ∷ "a message shorter than the text it claims" ∷ [])
    ∷ bad Asked.Messages false (bytes "07D031780002") ("refused" ∷ "5" ∷ "1" ∷ "a byte that is not allowed" ∷ [])
    -- encoded counts, of 96 bytes and of 97
    ∷ good Asked.Stamp false (bytes "053") ("1/05.3" ∷ [])
    ∷ good Asked.Stamp false (bytes "500") ("2/20.0" ∷ [])
    ∷ good Asked.Stamp false (bytes "1200") ("2/90.0" ∷ [])
    ∷ good Asked.Stamp false (replicate 94 48 ++ bytes "53") ("1/05.3" ∷ [])
    ∷ bad Asked.Stamp false (replicate 95 48 ++ bytes "53") ("refused" ∷ "4" ∷ "-" ∷ "the text is too long" ∷ [])
    ∷ bad Asked.Stamp false (replicate 97 120) ("refused" ∷ "4" ∷ "-" ∷ "the text is too long" ∷ [])
    ∷ bad Asked.Stamp false (bytes "1201") ("refused" ∷ "12" ∷ "-" ∷ "the encoded count is above the total" ∷ [])
    ∷ bad Asked.Stamp false (bytes "99999999999999999999999") ("refused" ∷ "12" ∷ "-" ∷ "the encoded count is above the total" ∷ [])
    ∷ bad Asked.Stamp false (bytes "5 3") ("refused" ∷ "5" ∷ "1" ∷ "a byte that is not allowed" ∷ [])
    ∷ bad Asked.Stamp false (bytes "-1") ("refused" ∷ "5" ∷ "0" ∷ "a byte that is not allowed" ∷ [])
    ∷ bad Asked.Stamp false [] ("refused" ∷ "6" ∷ "-" ∷ "the first field is missing" ∷ [])
    -- times in nanoseconds, likewise
    ∷ good Asked.Count false (bytes "-867") ("53" ∷ [])
    ∷ good Asked.Count false (bytes "-0") ("400" ∷ [])
    ∷ good Asked.Count false (bytes "2802") ("1200" ∷ [])
    ∷ good Asked.Count false ((45 ∷ replicate 92 48) ++ bytes "867") ("53" ∷ [])
    ∷ bad Asked.Count false ((45 ∷ replicate 93 48) ++ bytes "867") ("refused" ∷ "4" ∷ "-" ∷ "the text is too long" ∷ [])
    ∷ bad Asked.Count false (replicate 97 120) ("refused" ∷ "4" ∷ "-" ∷ "the text is too long" ∷ [])
    ∷ bad Asked.Count false (bytes "-1001") ("refused" ∷ "13" ∷ "-" ∷ "before the first segment" ∷ [])
    ∷ bad Asked.Count false (bytes "-4000000000000000000") ("refused" ∷ "13" ∷ "-" ∷ "before the first segment" ∷ [])
    ∷ bad Asked.Count false (bytes "-4000000000000000001") ("refused" ∷ "14" ∷ "-" ∷ "the time or its count is out of range" ∷ [])
    ∷ bad Asked.Count false (bytes "4000000000000000001") ("refused" ∷ "14" ∷ "-" ∷ "the time or its count is out of range" ∷ [])
    ∷ bad Asked.Count false (bytes "-99999999999999999999999") ("refused" ∷ "14" ∷ "-" ∷ "the time or its count is out of range" ∷ [])
    ∷ bad Asked.Count false (bytes "2803") ("refused" ∷ "14" ∷ "-" ∷ "the time or its count is out of range" ∷ [])
    ∷ bad Asked.Count false (bytes "-") ("refused" ∷ "6" ∷ "-" ∷ "the first field is missing" ∷ [])
    ∷ bad Asked.Count false (bytes "--1") ("refused" ∷ "5" ∷ "1" ∷ "a byte that is not allowed" ∷ [])
    ∷ bad Asked.Count false (bytes "0.5") ("refused" ∷ "5" ∷ "1" ∷ "a byte that is not allowed" ∷ [])
    -- and in seconds
    ∷ good Asked.Count true (bytes "-0.000000867") ("53" ∷ [])
    ∷ good Asked.Count true (bytes "0.0000016030") ("801" ∷ [])
    ∷ good Asked.Count true (bytes "0.") ("400" ∷ [])
    ∷ good Asked.Count true (bytes "0." ++ replicate 94 48) ("400" ∷ [])
    ∷ bad Asked.Count true (bytes "0." ++ replicate 95 48) ("refused" ∷ "4" ∷ "-" ∷ "the text is too long" ∷ [])
    ∷ bad Asked.Count true (replicate 97 120) ("refused" ∷ "4" ∷ "-" ∷ "the text is too long" ∷ [])
    ∷ bad Asked.Count true (bytes "1e3") ("refused" ∷ "5" ∷ "1" ∷ "a byte that is not allowed" ∷ [])
    ∷ bad Asked.Count true (bytes "-1-.5") ("refused" ∷ "5" ∷ "2" ∷ "a byte that is not allowed" ∷ [])
    ∷ bad Asked.Count true (bytes "0.0.0") ("refused" ∷ "5" ∷ "3" ∷ "a byte that is not allowed" ∷ [])
    ∷ bad Asked.Count true (bytes "-.x") ("refused" ∷ "5" ∷ "2" ∷ "a byte that is not allowed" ∷ [])
    ∷ bad Asked.Count true (bytes "-.5") ("refused" ∷ "6" ∷ "-" ∷ "the first field is missing" ∷ [])
    ∷ bad Asked.Count true (bytes ".0000000001") ("refused" ∷ "6" ∷ "-" ∷ "the first field is missing" ∷ [])
    ∷ bad Asked.Count true (bytes "0.0000016031") ("refused" ∷ "20" ∷ "-" ∷ "a number that is not exact in its unit" ∷ [])
    ∷ bad Asked.Count true (bytes "4000000000.0000000001") ("refused" ∷ "20" ∷ "-" ∷ "a number that is not exact in its unit" ∷ [])
    ∷ bad Asked.Count true (bytes "-4000000000.000000001") ("refused" ∷ "14" ∷ "-" ∷ "the time or its count is out of range" ∷ [])
    ∷ bad Asked.Count true (bytes "-4000000000") ("refused" ∷ "13" ∷ "-" ∷ "before the first segment" ∷ [])
    ∷ [])
    -- an offset, another delimiter and whole seconds: 985,855,967 ticks of 1/48,000 s
    ∷ group table_b table_a
    (good Asked.Time false (bytes "20538:39:768") ("985855967" ∷ "788982198665979167" ∷ "1/20538:39:768" ∷ [])
    ∷ good Asked.Time true (bytes "20538:39:768") ("985855967" ∷ "788982198.665979167" ∷ "1/20538:39:768" ∷ [])
    ∷ good Asked.Time true (bytes "1/0") ("0" ∷ "788961660.000000000" ∷ "1/00000:00:001" ∷ [])
    ∷ bad Asked.Time false (bytes "20538:39:0") ("refused" ∷ "8" ∷ "9" ∷ "a field below its offset" ∷ [])
    ∷ good Asked.Stamp false (bytes "985855967") ("1/20538:39:768" ∷ [])
    ∷ good Asked.Count true (bytes "788982198.665979167") ("985855967" ∷ [])
    ∷ good Asked.Count true (bytes "788961661.5") ("72000" ∷ [])
    ∷ good Asked.Count true (bytes "0788961660") ("0" ∷ [])
    ∷ [])
    -- the stamp `1/1:2,3-4.5` of 11 bytes: each letter of hex in either case
    ∷ group table_five table_a
    (good Asked.Messages false (bytes "312F313A322C332D342E35000B") ("12345" ∷ "12345000" ∷ "1/1-2-3-4-5" ∷ [])
    ∷ good Asked.Messages false (bytes "312f313a322c332d342e35000b") ("12345" ∷ "12345000" ∷ "1/1-2-3-4-5" ∷ [])
    ∷ [])
    ∷ []

pub cases_hold : map printed_of groups ≡ map expected_of groups
unfolding command layout_b row groups printed_of expected_of
cases_hold = refl

-- what is said of a kernel that is refused, in the order of `read_kernel`'s refusals
pub kernel_refusals_lem : map (λ k. last_field (refusal_text k)) (numbered 18 ∷ numbered 19 ∷ numbered 20 ∷ numbered 1 ∷ placed 2 1 ∷ placed 3 0 ∷ numbered 16 ∷ [])
    ≡ (row ("18" ∷ "-" ∷ "the first line is not KPL/SCLK" ∷ [])
    ∷ row ("19" ∷ "-" ∷ "the text is not of a kernel's form" ∷ [])
    ∷ row ("20" ∷ "-" ∷ "a number that is not exact in its unit" ∷ [])
    ∷ row ("1" ∷ "-" ∷ "the layout breaks its rules" ∷ [])
    ∷ row ("2" ∷ "1" ∷ "the partitions break their rules" ∷ [])
    ∷ row ("3" ∷ "0" ∷ "the segments break their rules" ∷ [])
    ∷ row ("16" ∷ "-" ∷ "too little room" ∷ [])
    ∷ [])
unfolding command row
kernel_refusals_lem = refl
