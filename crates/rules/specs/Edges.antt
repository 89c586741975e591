-- Each limit of the three tables, accepted at the limit and refused one beyond, with the row, as one table with one statement.
-- The question is whether a table steps back: `answer` means accepted. The limits on rows are in proofs/Rows.antt, for every number of rows.
use Rattle.std.specs.Prelude.{ℕ, zero, suc, ◌+◌, ◌-◌, ◌*◌, ◌^◌, ◌≡◌, refl, Bool, true, false, List, [], ◌∷◌, ◌++◌, map, ℤ, pos, negsuc, replicate, length, take}
use Rattle.base.specs.Scans.{sum_below}
use Rattle.rules.specs.declared.Layout.{Layout}
use Rattle.rules.specs.Answer.{Answer, answer, refuse, refuse_at}
use Rattle.rules.specs.Partitions.{Partitions, partitions, total_of, lengths_before}
use Rattle.rules.specs.Segments.{Segments, segments}
use Rattle.rules.specs.Time.{steps_back_in}
use Rattle.rules.specs.Computing.{computing}
use Rattle.rules.specs.Examples.{layout_a, partitions_a, segments_a}

-- ten slots, the given numbers first and 0 after them
slots : List ℕ → List ℕ
slots xs = take 10 (xs ++ replicate 10 0)

layout : ℕ → List ℕ → List ℕ → ℕ → Layout
layout n ms os d = record { n = n; moduli = slots ms; offsets = slots os; delimiter = d }

-- table A's layout with other moduli, with another second offset, with another delimiter
moduli : List ℕ → Layout
moduli ms = layout (length ms) ms [] 1

offset : ℕ → Layout
offset o = layout 2 (100 ∷ 10 ∷ []) (0 ∷ o ∷ []) 1

delimiter : ℕ → Layout
delimiter d = layout 2 (100 ∷ 10 ∷ []) [] d

-- f 0, .., f (n - 1)
unfoldable pub tabulate : {A : Type 0} → (ℕ → A) → ℕ → List A
tabulate f zero = []
tabulate f (suc n) = f 0 ∷ tabulate (λ i. f (i + 1)) n

-- n partitions 0..1; n segments, a tick each and 1 ms apart. proofs/Rows.antt: accepted exactly from 1 to 9,999 and from 1 to 10,000
unfoldable pub many_partitions : ℕ → Partitions
many_partitions n = partitions (tabulate (λ i. 0) n) (tabulate (λ i. 1) n)

unfoldable pub many_segments : ℕ → Segments
many_segments n = segments (tabulate (λ i. i) n) (tabulate (λ i. pos (1_000_000 * i)) n) (tabulate (λ i. 10_000) n)

-- one partition from 0 to an end; one segment at count 0, whose tick is 1 ns at the rate 10,000 in table A's layout
up_to : ℕ → Partitions
up_to e = partitions (0 ∷ []) (e ∷ [])

one_segment : ℤ → ℕ → Segments
one_segment t r = segments (0 ∷ []) (t ∷ []) (r ∷ [])

-- table A's segments with the second at another count, at another time
second_at : ℕ → ℤ → Segments
second_at c t = segments (0 ∷ c ∷ []) (negsuc 999 ∷ t ∷ []) (25_000 ∷ 30_000 ∷ [])

-- table A's segments and a third at count 700
third_at : ℤ → Segments
third_at t = segments (0 ∷ 600 ∷ 700 ∷ []) (negsuc 999 ∷ pos 1_000 ∷ t ∷ []) (25_000 ∷ 30_000 ∷ 30_000 ∷ [])

-- a segment from a time on, 3,000 ns long, and a second one at the total and the latest time
ending_late : ℕ → Segments
ending_late t = segments (0 ∷ 1_200 ∷ []) (pos t ∷ pos (4 * 10 ^ 18) ∷ []) (25_000 ∷ 10_000 ∷ [])

pub record Edge : Type 0 where
  pub layout : Layout
  pub spans : Partitions
  pub rows : Segments
  pub expected : Answer Bool

edge : Layout → Partitions → Segments → Answer Bool → Edge
edge l p g a = record { layout = l; spans = p; rows = g; expected = a }

-- accepted, and whether the table steps back
grows : Answer Bool
grows = answer false

steps_backward : Answer Bool
steps_backward = answer true

-- the fields' edges, asked with one partition and one segment that fit every layout here
layout_edge : Layout → Answer Bool → Edge
layout_edge l a = edge l (up_to 1) (one_segment (pos 0) (10 ^ 15)) a

-- the partitions' edges
span_edge : Partitions → Answer Bool → Edge
span_edge p a = edge layout_a p (one_segment (pos 0) 10_000) a

-- the segments' edges
row_edge : Segments → Answer Bool → Edge
row_edge g a = edge layout_a partitions_a g a

pub edges : List Edge
edges =
    -- table A nowhere steps back, nor with its second segment at 500; at 499 it does and is still accepted
    row_edge segments_a grows
    ∷ row_edge (second_at 600 (pos 500)) grows
    ∷ row_edge (second_at 600 (pos 499)) steps_backward
    -- nor with a third that its second line meets at 1,300; at 1,299 it does
    ∷ row_edge (third_at (pos 1_300)) grows
    ∷ row_edge (third_at (pos 1_299)) steps_backward
    -- n
    ∷ layout_edge (layout 0 (100 ∷ 10 ∷ []) [] 1) (refuse 1)
    ∷ layout_edge (layout 1 (100 ∷ 10 ∷ []) [] 1) grows
    ∷ layout_edge (layout 10 (2 ∷ 2 ∷ 2 ∷ 2 ∷ 2 ∷ 2 ∷ 2 ∷ 2 ∷ 2 ∷ 2 ∷ []) [] 1) grows
    ∷ layout_edge (layout 11 (2 ∷ 2 ∷ 2 ∷ 2 ∷ 2 ∷ 2 ∷ 2 ∷ 2 ∷ 2 ∷ 2 ∷ []) [] 1) (refuse 1)
    ∷ layout_edge (record { n = 11; moduli = replicate 11 2; offsets = replicate 11 0; delimiter = 1 }) (refuse 1)
    -- a modulus, an offset; slots after the n-th are not looked at
    ∷ layout_edge (moduli (100 ∷ 0 ∷ [])) (refuse 1)
    ∷ layout_edge (moduli (100 ∷ 1 ∷ [])) grows
    ∷ layout_edge (moduli (0 ∷ 10 ∷ [])) (refuse 1)
    ∷ layout_edge (offset 1_000) grows
    ∷ layout_edge (offset 1_001) (refuse 1)
    ∷ layout_edge (layout 2 (100 ∷ 10 ∷ []) (1_001 ∷ []) 1) (refuse 1)
    ∷ layout_edge (layout 2 (100 ∷ 10 ∷ (2 ^ 64 - 1) ∷ []) (0 ∷ 0 ∷ (2 ^ 64 - 1) ∷ []) 1) grows
    -- P and MSF, and products that wrap in 64 bits
    ∷ layout_edge (moduli ((10 ^ 15) ∷ [])) grows
    ∷ layout_edge (moduli ((10 ^ 15 + 1) ∷ [])) (refuse 1)
    ∷ layout_edge (moduli (1_000 ∷ (10 ^ 12) ∷ [])) grows
    ∷ layout_edge (moduli (1 ∷ (10 ^ 12 + 1) ∷ [])) (refuse 1)
    ∷ layout_edge (moduli ((2 ^ 32) ∷ (2 ^ 32) ∷ [])) (refuse 1)
    ∷ layout_edge (moduli ((2 ^ 63) ∷ 2 ∷ [])) (refuse 1)
    -- the delimiter
    ∷ layout_edge (delimiter 0) (refuse 1)
    ∷ layout_edge (delimiter 1) grows
    ∷ layout_edge (delimiter 5) grows
    ∷ layout_edge (delimiter 6) (refuse 1)
    -- no partition, lists of one length, a start at its end, an end at P, the total
    ∷ span_edge (partitions [] []) (refuse_at 2 0)
    ∷ span_edge (partitions (0 ∷ 0 ∷ []) (1 ∷ [])) (refuse_at 2 1)
    ∷ span_edge (partitions (0 ∷ []) (1 ∷ 1 ∷ [])) (refuse_at 2 1)
    ∷ span_edge (partitions (5 ∷ []) (6 ∷ [])) grows
    ∷ span_edge (partitions (5 ∷ []) (5 ∷ [])) (refuse_at 2 0)
    ∷ span_edge (partitions (6 ∷ []) (5 ∷ [])) (refuse_at 2 0)
    ∷ span_edge (partitions (0 ∷ 5 ∷ []) (1 ∷ 5 ∷ [])) (refuse_at 2 1)
    ∷ span_edge (up_to 999) grows
    ∷ span_edge (up_to 1_000) (refuse_at 2 0)
    ∷ edge (moduli ((10 ^ 15) ∷ [])) (partitions (0 ∷ 0 ∷ []) ((10 ^ 15 - 1) ∷ 1 ∷ [])) (one_segment (pos 0) 1_000) grows
    ∷ edge (moduli ((10 ^ 15) ∷ [])) (partitions (0 ∷ 0 ∷ []) ((10 ^ 15 - 1) ∷ 2 ∷ [])) (one_segment (pos 0) 1_000) (refuse_at 2 1)
    -- no segment, lists of one length
    ∷ row_edge (segments [] [] []) (refuse_at 3 0)
    ∷ row_edge (segments (0 ∷ []) [] (10_000 ∷ [])) (refuse_at 3 0)
    ∷ row_edge (segments (0 ∷ []) (pos 0 ∷ []) []) (refuse_at 3 0)
    ∷ row_edge (segments (0 ∷ []) (pos 0 ∷ pos 1 ∷ []) (10_000 ∷ [])) (refuse_at 3 1)
    ∷ row_edge (segments (0 ∷ []) (pos 0 ∷ []) (10_000 ∷ 10_000 ∷ [])) (refuse_at 3 1)
    -- counts and times grow strictly; a segment may begin at the total
    ∷ row_edge (second_at 0 (pos 1_000)) (refuse_at 3 1)
    ∷ row_edge (second_at 1 (pos 1_000)) grows
    ∷ row_edge (second_at 1 (negsuc 999)) (refuse_at 3 1)
    ∷ row_edge (second_at 1 (negsuc 998)) steps_backward
    ∷ row_edge (second_at 1_200 (pos 5_000)) grows
    ∷ row_edge (second_at 1_201 (pos 5_000)) (refuse_at 3 1)
    -- the rate: 1,000×MSF is 10,000
    ∷ row_edge (one_segment (pos 0) 9_999) (refuse_at 3 0)
    ∷ row_edge (one_segment (pos 0) 10_000) grows
    ∷ row_edge (one_segment (pos 0) (10 ^ 15)) grows
    ∷ row_edge (one_segment (pos 0) (10 ^ 15 + 1)) (refuse_at 3 0)
    -- times at ±4×10^18; a line that reaches it, and one more; a line rounded up reaches one more
    ∷ row_edge (one_segment (negsuc (4 * 10 ^ 18 - 1)) 10_000) grows
    ∷ row_edge (one_segment (negsuc (4 * 10 ^ 18)) 10_000) (refuse_at 3 0)
    ∷ row_edge (second_at 1_200 (pos (4 * 10 ^ 18))) grows
    ∷ row_edge (second_at 1_200 (pos (4 * 10 ^ 18 + 1))) (refuse_at 3 1)
    ∷ row_edge (one_segment (pos (4 * 10 ^ 18 - 1_200)) 10_000) grows
    ∷ row_edge (one_segment (pos (4 * 10 ^ 18 - 1_200)) 10_001) (refuse_at 3 0)
    ∷ row_edge (one_segment (pos (4 * 10 ^ 18 - 1_199)) 10_000) (refuse_at 3 0)
    -- the same of a line that ends at a next segment's count
    ∷ row_edge (ending_late (4 * 10 ^ 18 - 3_000)) grows
    ∷ row_edge (ending_late (4 * 10 ^ 18 - 2_999)) (refuse_at 3 0)
    -- a quotient of some 10^30, before any bound is known
    ∷ row_edge (segments (0 ∷ (2 ^ 64 - 1) ∷ []) (pos 0 ∷ pos 1 ∷ []) ((10 ^ 15) ∷ (10 ^ 15) ∷ [])) (refuse_at 3 0)
    ∷ []

pub total_A : total_of partitions_a ≡ 1_200
unfolding total_of lengths_before sum_below partitions_a
total_A = refl

pub edges_hold : map (λ e. steps_back_in e.layout e.spans e.rows) edges ≡ map (λ e. e.expected) edges
unfolding computing layout_a partitions_a segments_a slots layout moduli offset delimiter up_to one_segment second_at third_at ending_late edge grows steps_backward layout_edge span_edge row_edge edges
edges_hold = refl
