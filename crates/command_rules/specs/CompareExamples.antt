-- Lines of two tables, and the two lines before them, worked out by hand.
use Rattle.std.specs.Prelude.{ℕ, ◌≡◌, refl, true, false, List, [], ◌∷◌, ◌++◌, map, pos, negsuc}
use Prim.Native.String.{String}
use Rattle.rules.specs.Partitions.{partitions}
use Rattle.rules.specs.Segments.{segments}
use Rattle.rules.specs.Examples.{bytes, layout_a, layout_b, partitions_a, segments_a}
use Rattle.succession_rules.specs.Succession.{succeeds, fails, failure}
use Rattle.succession_rules.specs.declared.Condition.TheVariants as Conditions
use Rattle.versions.specs.Versions.{Table}
use Rattle.versions.specs.Needed.{clock, table, cut_a, table_a}
use Rattle.command_rules.specs.declared.Query.TheVariants as Asked
use Rattle.command_rules.specs.Verdict.{verdict_text}
use Rattle.command_rules.specs.Computing.{command}
use Rattle.command_rules.specs.Examples.{row, Group, group, good, bad, printed_of, expected_of, table_b}

-- table A with its second segment a nanosecond later
abbrev pub later_a : Table
later_a = table layout_a partitions_a (segments (0 ∷ 600 ∷ []) (negsuc 999 ∷ pos 1_001 ∷ []) (25_000 ∷ 30_000 ∷ []))

-- table A with 100 counts less in partition 1, and with its first segment 250 ns, which is 100 ticks, later
abbrev pub shorter_a : Table
shorter_a = table layout_a (partitions (0 ∷ 200 ∷ []) (400 ∷ 900 ∷ [])) (segments (0 ∷ 600 ∷ []) (negsuc 749 ∷ pos 1_000 ∷ []) (25_000 ∷ 30_000 ∷ []))

-- one field of modulus 1,000
abbrev pub one_field : Table
one_field = table (clock 1 1_000 1 0 1) partitions_a segments_a

-- table B 12.500000001 seconds later
abbrev pub later_b : Table
later_b = table layout_b table_b.partitions (segments (0 ∷ []) (pos 788_961_672_500_000_001 ∷ []) (1_000_000_000_000 ∷ []))

unfoldable pub pairs : List Group
pairs =
    -- an older table that was cut; the messages are `1/5.3`, `2/20.1` and none
    group cut_a table_a
    (good Asked.Compare false (bytes "1/5.3") ("same" ∷ "53" ∷ "-867" ∷ [])
    ∷ good Asked.Compare true (bytes "1/5.3" ++ (13 ∷ [])) ("same" ∷ "53" ∷ "-0.000000867" ∷ [])
    ∷ bad Asked.Compare false (bytes "1/50.1") ("same" ∷ "refused" ∷ "11" ∷ "-" ∷ "the count is in no such partition" ∷ [])
    ∷ bad Asked.Compare false (bytes "1/5x3") ("same" ∷ "refused" ∷ "5" ∷ "3" ∷ "a byte that is not allowed" ∷ [])
    ∷ bad Asked.Compare true (bytes "2/20.1") ("older refuses" ∷ "10" ∷ "-" ∷ "no such partition" ∷ "501" ∷ "0.000000253" ∷ [])
    ∷ bad Asked.Compare false (bytes "2/90.1") ("refused" ∷ "10" ∷ "-" ∷ "no such partition" ∷ "11" ∷ "-" ∷ "the count is in no such partition" ∷ [])
    ∷ good Asked.CompareMessages false (bytes "312f352e330005") ("same" ∷ "53" ∷ "-867" ∷ [])
    ∷ bad Asked.CompareMessages false (bytes "322f32302e310006") ("older refuses" ∷ "10" ∷ "-" ∷ "no such partition" ∷ "501" ∷ "253" ∷ [])
    ∷ bad Asked.CompareMessages false (bytes "31g") ("same" ∷ "refused" ∷ "5" ∷ "2" ∷ "a byte that is not allowed" ∷ [])
    ∷ [])
    -- a newer one; the message is `50.1`
    ∷ group table_a cut_a
    (bad Asked.Compare false (bytes "50.1") ("newer refuses" ∷ "11" ∷ "-" ∷ "the count is in no such partition" ∷ "801" ∷ "1603" ∷ [])
    ∷ bad Asked.Compare false (bytes "2/90.1") ("refused" ∷ "11" ∷ "-" ∷ "the count is in no such partition" ∷ "10" ∷ "-" ∷ "no such partition" ∷ [])
    ∷ bad Asked.CompareMessages true (bytes "35302E310004") ("newer refuses" ∷ "11" ∷ "-" ∷ "the count is in no such partition" ∷ "801" ∷ "0.000001603" ∷ [])
    ∷ [])
    -- another time, later and earlier, also by over a second
    ∷ group table_a later_a
    (bad Asked.Compare false (bytes "50.1") ("differ" ∷ "801" ∷ "1603" ∷ "801" ∷ "1604" ∷ "1" ∷ [])
    ∷ bad Asked.CompareMessages false (bytes "35302E310004") ("differ" ∷ "801" ∷ "1603" ∷ "801" ∷ "1604" ∷ "1" ∷ [])
    ∷ [])
    ∷ group later_a table_a (bad Asked.Compare true (bytes "50.1") ("differ" ∷ "801" ∷ "0.000001604" ∷ "801" ∷ "0.000001603" ∷ "-0.000000001" ∷ []) ∷ [])
    ∷ group table_b later_b
    (bad Asked.Compare true (bytes "20538:39:768") ("differ" ∷ "985855967" ∷ "788982198.665979167" ∷ "985855967" ∷ "788982211.165979168" ∷ "12.500000001" ∷ []) ∷ [])
    ∷ group later_b table_b
    (bad Asked.Compare false (bytes "20538:39:768") ("differ" ∷ "985855967" ∷ "788982211165979168" ∷ "985855967" ∷ "788982198665979167" ∷ "-12500000001" ∷ []) ∷ [])
    -- another count and one time
    ∷ group table_a shorter_a
    (bad Asked.Compare false (bytes "2/20.1") ("differ" ∷ "501" ∷ "253" ∷ "401" ∷ "253" ∷ "0" ∷ [])
    ∷ bad Asked.Compare true (bytes "2/20.1") ("differ" ∷ "501" ∷ "0.000000253" ∷ "401" ∷ "0.000000253" ∷ "0.000000000" ∷ [])
    ∷ [])
    -- one refusal at two places: the older's is printed; two refusals, each with its own
    ∷ group table_a one_field (bad Asked.Compare false (bytes "1.2.3") ("same" ∷ "refused" ∷ "7" ∷ "4" ∷ "too many fields" ∷ []) ∷ [])
    ∷ group one_field table_a (bad Asked.Compare false (bytes "1.2.3") ("same" ∷ "refused" ∷ "7" ∷ "2" ∷ "too many fields" ∷ []) ∷ [])
    ∷ group one_field table_b (bad Asked.Compare false (bytes "1.2.0") ("refused" ∷ "7" ∷ "2" ∷ "too many fields" ∷ "8" ∷ "4" ∷ "a field below its offset" ∷ []) ∷ [])
    ∷ []

pub pairs_hold : map printed_of pairs ≡ map expected_of pairs
unfolding command layout_b row pairs printed_of expected_of
pairs_hold = refl

-- the two lines before a comparison
unfoldable pub verdict_rows : List String → List String → List ℕ
verdict_rows first second = row first ++ row second

pub verdicts : (verdict_text succeeds 500
    ∷ verdict_text (fails (failure Conditions.Layout 0)) 0
    ∷ verdict_text (fails (failure Conditions.Partition 1)) 0
    ∷ verdict_text (fails (failure Conditions.Segment 1)) 550
    ∷ verdict_text (fails (failure Conditions.Further 32)) 897_979_999
    ∷ verdict_text (fails (failure Conditions.Seam 0)) 1
    ∷ [])
    ≡ (verdict_rows ("succeeds" ∷ "yes" ∷ []) ("horizon" ∷ "500" ∷ [])
    ∷ verdict_rows ("succeeds" ∷ "no" ∷ "layout" ∷ "0" ∷ []) ("horizon" ∷ "0" ∷ [])
    ∷ verdict_rows ("succeeds" ∷ "no" ∷ "partition" ∷ "1" ∷ []) ("horizon" ∷ "0" ∷ [])
    ∷ verdict_rows ("succeeds" ∷ "no" ∷ "segment" ∷ "1" ∷ []) ("horizon" ∷ "550" ∷ [])
    ∷ verdict_rows ("succeeds" ∷ "no" ∷ "further" ∷ "32" ∷ []) ("horizon" ∷ "897979999" ∷ [])
    ∷ verdict_rows ("succeeds" ∷ "no" ∷ "seam" ∷ "0" ∷ []) ("horizon" ∷ "1" ∷ [])
    ∷ [])
unfolding command row verdict_rows
verdicts = refl
