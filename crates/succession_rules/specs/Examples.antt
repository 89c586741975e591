-- Two tables by hand: one table of cases with both answers, each condition at its edge and one beyond, its row, and the order in which conditions
-- and refusals come. `smallest` of versions is modulus 3, partition 0..1, segment (0, 0, 1000).
use Rattle.std.specs.Prelude.{ℕ, ◌≡◌, refl, List, [], ◌∷◌, map, ℤ, pos, negsuc}
use Rattle.rules.specs.declared.Layout.{Layout}
use Rattle.rules.specs.Answer.{numbered, placed, Numbered}
use Rattle.rules.specs.Partitions.{partitions}
use Rattle.rules.specs.Segments.{segments}
use Rattle.rules.specs.Examples.{layout_a, partitions_a}
use Rattle.rules.specs.CallEdges.{no_layout}
use Rattle.versions.specs.Versions.{Table}
use Rattle.versions.specs.Needed.{clock, table, under, smallest, over, along, cut_a, table_a, back_two, back_three}
use Rattle.succession_rules.specs.declared.Condition.{Condition}
use Rattle.succession_rules.specs.declared.Condition.TheVariants as Asked
use Rattle.succession_rules.specs.OfTwo.{OfTwo, answered, older_refused, newer_refused}
use Rattle.succession_rules.specs.Succession.{Verdict, succeeds, fails, failure, succession}
use Rattle.succession_rules.specs.Horizon.{horizon_of}
use Rattle.succession_rules.specs.Computing.{two_tables}

pub record Case : Type 0 where
  pub older : Table
  pub newer : Table
  pub succession_is : OfTwo Verdict
  pub horizon_is : OfTwo ℕ

-- two accepted tables: the newer succeeds, or fails so; and the horizon
abbrev pub yes : Table → Table → ℕ → Case
yes o n h = record { older = o; newer = n; succession_is = answered succeeds; horizon_is = answered h }

abbrev pub no : Table → Table → Condition → ℕ → ℕ → Case
no o n c i h = record { older = o; newer = n; succession_is = answered (fails (failure c i)); horizon_is = answered h }

-- one of the two is refused
abbrev pub older : Table → Table → Numbered → Case
older o n k = record { older = o; newer = n; succession_is = older_refused k; horizon_is = older_refused k }

abbrev pub newer : Table → Table → Numbered → Case
newer o n k = record { older = o; newer = n; succession_is = newer_refused k; horizon_is = newer_refused k }

-- table A with other segments
abbrev pub along_a : List ℕ → List ℤ → List ℕ → Table
along_a cs ts rs = table layout_a partitions_a (segments cs ts rs)

-- the smallest with two partitions 0..1, and with the one partition 0..2: total 2
abbrev pub over_two : List ℕ → List ℤ → List ℕ → Table
over_two cs ts rs = table (clock 1 3 1 0 1) (partitions (0 ∷ 0 ∷ []) (1 ∷ 1 ∷ [])) (segments cs ts rs)

abbrev pub to_two : List ℕ → List ℤ → List ℕ → Table
to_two cs ts rs = table (clock 1 3 1 0 1) (partitions (0 ∷ []) (2 ∷ [])) (segments cs ts rs)

-- the smallest with another layout, and a rate that two ticks to a count allow
abbrev pub slow : Layout → Table
slow l = table l smallest.partitions (segments (0 ∷ []) (pos 0 ∷ []) (2_000 ∷ []))

unfoldable pub cases : List Case
cases =
    -- "Table A cut to its first partition and segment", and table A; a table and itself; the newer for the older
    yes cut_a table_a 500
    ∷ yes table_a table_a 1_200
    ∷ no table_a cut_a Asked.Partition 1 0
    ∷ yes smallest smallest 1
    -- slots after the n-th may differ; nothing else of a layout
    ∷ yes smallest (under (clock 1 3 7 0 1)) 1
    ∷ no smallest (under (clock 2 3 1 0 1)) Asked.Layout 0 0
    ∷ no smallest (under (clock 1 4 1 0 1)) Asked.Layout 0 0
    ∷ no smallest (under (clock 1 3 1 1 1)) Asked.Layout 0 0
    ∷ no smallest (under (clock 1 3 1 0 2)) Asked.Layout 0 0
    ∷ no (slow (clock 2 3 1 0 1)) (slow (clock 2 3 2 0 1)) Asked.Layout 0 0
    -- a greater last end, a further partition, both
    ∷ yes smallest (over (0 ∷ []) (2 ∷ [])) 1
    ∷ yes smallest (over (0 ∷ 1 ∷ []) (1 ∷ 2 ∷ [])) 1
    ∷ yes smallest (over (0 ∷ 1 ∷ []) (2 ∷ 2 ∷ [])) 1
    -- a smaller last end, another start, another inner end; the first row that is not kept, and one that is missing
    ∷ no (over (0 ∷ []) (2 ∷ [])) smallest Asked.Partition 0 0
    ∷ no (over (0 ∷ []) (2 ∷ [])) (over (1 ∷ []) (2 ∷ [])) Asked.Partition 0 0
    ∷ no (over (0 ∷ 0 ∷ []) (1 ∷ 1 ∷ [])) (over (0 ∷ 0 ∷ []) (2 ∷ 1 ∷ [])) Asked.Partition 0 0
    ∷ no (over (0 ∷ 0 ∷ 0 ∷ []) (1 ∷ 2 ∷ 1 ∷ [])) (over (0 ∷ 0 ∷ 0 ∷ []) (1 ∷ 1 ∷ 2 ∷ [])) Asked.Partition 1 0
    ∷ no (over (0 ∷ 0 ∷ 0 ∷ []) (1 ∷ 1 ∷ 1 ∷ [])) (over (0 ∷ 0 ∷ 1 ∷ []) (1 ∷ 1 ∷ 2 ∷ [])) Asked.Partition 2 0
    ∷ no (over (0 ∷ 0 ∷ []) (1 ∷ 1 ∷ [])) smallest Asked.Partition 1 0
    -- a segment with another count, time, rate, and one that is missing: the horizon is the lesser of the two counts
    ∷ no smallest (along (1 ∷ []) (pos 0 ∷ []) (1_000 ∷ [])) Asked.Segment 0 0
    ∷ no smallest (along (0 ∷ []) (negsuc 0 ∷ []) (1_000 ∷ [])) Asked.Segment 0 0
    ∷ no smallest (along (0 ∷ []) (pos 0 ∷ []) (1_001 ∷ [])) Asked.Segment 0 0
    ∷ no table_a (along_a (0 ∷ 700 ∷ []) (negsuc 999 ∷ pos 1_000 ∷ []) (25_000 ∷ 30_000 ∷ [])) Asked.Segment 1 600
    ∷ no table_a (along_a (0 ∷ 550 ∷ []) (negsuc 999 ∷ pos 1_000 ∷ []) (25_000 ∷ 30_000 ∷ [])) Asked.Segment 1 550
    ∷ no table_a (along_a (0 ∷ 600 ∷ []) (negsuc 999 ∷ pos 1_001 ∷ []) (25_000 ∷ 30_000 ∷ [])) Asked.Segment 1 600
    ∷ no table_a (along_a (0 ∷ []) (negsuc 999 ∷ []) (25_000 ∷ [])) Asked.Segment 1 600
    -- a further segment: above the older's total, at it, below it; the first that is not above; the horizon is the total or its count
    ∷ yes smallest (over_two (0 ∷ 2 ∷ []) (pos 0 ∷ pos 2 ∷ []) (1_000 ∷ 1_000 ∷ [])) 1
    ∷ no smallest (along (0 ∷ 1 ∷ []) (pos 0 ∷ pos 1 ∷ []) (1_000 ∷ 1_000 ∷ [])) Asked.Further 1 1
    ∷ no (along_a (0 ∷ []) (negsuc 999 ∷ []) (25_000 ∷ [])) table_a Asked.Further 1 600
    ∷ no (along_a (0 ∷ []) (negsuc 999 ∷ []) (25_000 ∷ [])) (along_a (0 ∷ 600 ∷ 601 ∷ []) (negsuc 999 ∷ pos 1_000 ∷ pos 2_000 ∷ []) (25_000 ∷ 30_000 ∷ 30_000 ∷ [])) Asked.Further 1 600
    -- a step back at the seam, and before it
    ∷ no smallest (over_two (0 ∷ 2 ∷ []) (pos 0 ∷ pos 1 ∷ []) (1_000 ∷ 1_000 ∷ [])) Asked.Seam 0 1
    ∷ yes back_two back_three 2
    -- the order of conditions
    ∷ no (over (0 ∷ []) (2 ∷ [])) (table (clock 1 4 1 0 1) (partitions (1 ∷ []) (2 ∷ [])) (segments (1 ∷ []) (pos 0 ∷ []) (1_000 ∷ []))) Asked.Layout 0 0
    ∷ no (over (0 ∷ []) (2 ∷ [])) (table (clock 1 3 1 0 1) (partitions (1 ∷ []) (2 ∷ [])) (segments (1 ∷ []) (pos 0 ∷ []) (1_000 ∷ []))) Asked.Partition 0 0
    ∷ no smallest (along (0 ∷ 1 ∷ []) (pos 1 ∷ pos 2 ∷ []) (1_000 ∷ 1_000 ∷ [])) Asked.Segment 0 0
    ∷ no smallest (along (0 ∷ 1 ∷ []) (pos 0 ∷ pos 1 ∷ []) (2_000 ∷ 1_000 ∷ [])) Asked.Segment 0 0
    ∷ no (to_two (0 ∷ []) (pos 0 ∷ []) (2_000 ∷ [])) (to_two (0 ∷ 2 ∷ []) (pos 0 ∷ pos 1 ∷ []) (2_000 ∷ 1_000 ∷ [])) Asked.Further 1 2
    -- refusals with their places, the older's first, whichever number the newer's has
    ∷ older (under no_layout) (under no_layout) (numbered 1)
    ∷ older (over (0 ∷ 2 ∷ []) (1 ∷ 2 ∷ [])) (under no_layout) (placed 2 1)
    ∷ older (along (0 ∷ []) (pos 0 ∷ []) (999 ∷ [])) (under no_layout) (placed 3 0)
    ∷ newer smallest (under no_layout) (numbered 1)
    ∷ newer smallest (over [] []) (placed 2 0)
    ∷ newer smallest (along (0 ∷ 2 ∷ []) (pos 0 ∷ pos 2 ∷ []) (1_000 ∷ 1_000 ∷ [])) (placed 3 1)
    ∷ []

-- both calls give what the table says
pub successions_are : map (λ (c : Case). succession c.older c.newer) cases ≡ map (λ (c : Case). c.succession_is) cases
unfolding two_tables cases
successions_are = refl

pub horizons_are : map (λ (c : Case). horizon_of c.older c.newer) cases ≡ map (λ (c : Case). c.horizon_is) cases
unfolding two_tables cases
horizons_are = refl
