-- Each refusal of each set is given by some input, with its place where it has one.
use Rattle.std.specs.Prelude.{ℕ, ◌≡◌, refl, true, false, List, [], ◌∷◌, ◌++◌, map, pos, negsuc, replicate}
use Rattle.base.specs.Scans.{among}
use Rattle.rules.specs.Answer.{Answer, refused, numbered, placed, Numbered}
use Rattle.rules.specs.Segments.{Segments, segments}
use Rattle.rules.specs.Text.{read_text}
use Rattle.rules.specs.Stamp.{read_stamp}
use Rattle.rules.specs.Message.{read_message}
use Rattle.rules.specs.Print.{print_count, print_stamp}
use Rattle.rules.specs.Time.{time_of, count_at, steps_back_in}
use Rattle.rules.specs.StampTime.{time_of_stamp, time_of_message}
use Rattle.rules.specs.Computing.{computing}
use Rattle.rules.specs.Examples.{bytes, layout_a, partitions_a, segments_a, layout_b}
use Rattle.rules.specs.CallEdges.{no_layout, no_partitions, no_segments}
use Rattle.outcomes.specs.Refusals.{
  text_refusals,
  stamp_refusals,
  message_refusals,
  print_count_refusals,
  print_stamp_refusals,
  time_of_refusals,
  count_at_refusals,
  time_of_stamp_refusals,
  time_of_message_refusals,
  steps_back_refusals,
}

-- the first segment at count 1
unfoldable pub late_segments : Segments
late_segments = segments (1 ∷ []) (pos 0 ∷ []) (10_000 ∷ [])

unfoldable pub too_long : List ℕ
too_long = replicate 97 48

-- a clock text in a message, behind a payload byte
unfoldable pub message : ℕ → List ℕ → List ℕ
message n s = 7 ∷ s ++ (0 ∷ n ∷ [])

-- these answers are the refusals rs, whose numbers are the set ks
abbrev pub Given : {A : Type 0} → List (Answer A) → List Numbered → List ℕ → Type 0
Given answers rs ks = (answers ≡ map refused rs) × (map (λ (r : Numbered). r.number) rs ≡ ks)

pub refusals_given :
    Given
    (read_text no_layout [] ∷ read_text layout_a too_long ∷ read_text layout_a (bytes "x") ∷ read_text layout_a (bytes ".5") ∷ read_text layout_a (bytes "1.2.3")
    ∷ read_text layout_b (bytes "1:1:0") ∷ read_text layout_a (bytes "1000000000001001") ∷ [])
    (numbered 1 ∷ numbered 4 ∷ placed 5 0 ∷ numbered 6 ∷ placed 7 4 ∷ placed 8 4 ∷ placed 9 0 ∷ [])
    text_refusals
    × Given
    (read_stamp no_layout partitions_a [] ∷ read_stamp layout_a no_partitions [] ∷ read_stamp layout_a partitions_a too_long ∷ read_stamp layout_a partitions_a (bytes "/5")
    ∷ read_stamp layout_a partitions_a (bytes "1/") ∷ read_stamp layout_a partitions_a (bytes "1/1.2.3") ∷ read_stamp layout_b partitions_a (bytes "1/1:1:0")
    ∷ read_stamp layout_a partitions_a (bytes "1000000000001001") ∷ read_stamp layout_a partitions_a (bytes "3/1") ∷ read_stamp layout_a partitions_a (bytes "1/50.1") ∷ [])
    (numbered 1 ∷ placed 2 0 ∷ numbered 4 ∷ placed 5 0 ∷ numbered 6 ∷ placed 7 6 ∷ placed 8 6 ∷ placed 9 0 ∷ numbered 10 ∷ numbered 11 ∷ [])
    stamp_refusals
    × Given
    (read_message layout_a partitions_a [] ∷ read_message layout_a partitions_a (message 0 []) ∷ read_message layout_a partitions_a (message 3 (bytes "5"))
    ∷ read_message no_layout partitions_a (message 1 (bytes "5")) ∷ read_message layout_a no_partitions (message 1 (bytes "5"))
    ∷ read_message layout_a partitions_a (message 1 (bytes "x")) ∷ read_message layout_a partitions_a (message 1 (bytes " ")) ∷ read_message layout_a partitions_a (message 5 (bytes "1.2.3"))
    ∷ read_message layout_b partitions_a (message 5 (bytes "1:1:0")) ∷ read_message layout_a partitions_a (message 16 (bytes "1000000000001001"))
    ∷ read_message layout_a partitions_a (message 3 (bytes "3/1")) ∷ read_message layout_a partitions_a (message 6 (bytes "1/50.1")) ∷ [])
    (numbered 21 ∷ numbered 22 ∷ numbered 23 ∷ numbered 1 ∷ placed 2 0 ∷ placed 5 0 ∷ numbered 6 ∷ placed 7 4 ∷ placed 8 4 ∷ placed 9 0 ∷ numbered 10 ∷ numbered 11 ∷ [])
    message_refusals
    × Given
    (print_count no_layout 0 96 ∷ print_count layout_a 1_000 96 ∷ print_count layout_a 999 3 ∷ [])
    (numbered 1 ∷ numbered 9 ∷ numbered 16 ∷ [])
    print_count_refusals
    × Given
    (print_stamp no_layout partitions_a 0 96 ∷ print_stamp layout_a no_partitions 0 96 ∷ print_stamp layout_a partitions_a 1_201 96 ∷ print_stamp layout_a partitions_a 0 5 ∷ [])
    (numbered 1 ∷ placed 2 0 ∷ numbered 12 ∷ numbered 16 ∷ [])
    print_stamp_refusals
    × Given
    (time_of no_layout partitions_a segments_a 0 ∷ time_of layout_a no_partitions segments_a 0 ∷ time_of layout_a partitions_a no_segments 0
    ∷ time_of layout_a partitions_a segments_a 1_201 ∷ time_of layout_a partitions_a late_segments 0 ∷ [])
    (numbered 1 ∷ placed 2 0 ∷ placed 3 0 ∷ numbered 12 ∷ numbered 13 ∷ [])
    time_of_refusals
    × Given
    (count_at no_layout partitions_a segments_a (pos 0) ∷ count_at layout_a no_partitions segments_a (pos 0) ∷ count_at layout_a partitions_a no_segments (pos 0)
    ∷ count_at layout_a partitions_a segments_a (negsuc 1_000) ∷ count_at layout_a partitions_a segments_a (pos 2_803) ∷ [])
    (numbered 1 ∷ placed 2 0 ∷ placed 3 0 ∷ numbered 13 ∷ numbered 14 ∷ [])
    count_at_refusals
    × Given
    (time_of_stamp no_layout partitions_a segments_a [] ∷ time_of_stamp layout_a no_partitions segments_a [] ∷ time_of_stamp layout_a partitions_a segments_a too_long
    ∷ time_of_stamp layout_a partitions_a segments_a (bytes "/5") ∷ time_of_stamp layout_a partitions_a segments_a (bytes "1/") ∷ time_of_stamp layout_a partitions_a segments_a (bytes "1/1.2.3")
    ∷ time_of_stamp layout_b partitions_a segments_a (bytes "1/1:1:0") ∷ time_of_stamp layout_a partitions_a segments_a (bytes "1000000000001001")
    ∷ time_of_stamp layout_a partitions_a segments_a (bytes "3/1") ∷ time_of_stamp layout_a partitions_a segments_a (bytes "1/50.1")
    ∷ time_of_stamp layout_a partitions_a no_segments (bytes "1/0.0") ∷ time_of_stamp layout_a partitions_a late_segments (bytes "1/0.0") ∷ [])
    (numbered 1 ∷ placed 2 0 ∷ numbered 4 ∷ placed 5 0 ∷ numbered 6 ∷ placed 7 6 ∷ placed 8 6 ∷ placed 9 0 ∷ numbered 10 ∷ numbered 11 ∷ placed 3 0 ∷ numbered 13 ∷ [])
    time_of_stamp_refusals
    × Given
    (time_of_message layout_a partitions_a segments_a [] ∷ time_of_message layout_a partitions_a segments_a (message 0 []) ∷ time_of_message layout_a partitions_a segments_a (message 3 (bytes "5"))
    ∷ time_of_message no_layout partitions_a segments_a (message 1 (bytes "5")) ∷ time_of_message layout_a no_partitions segments_a (message 1 (bytes "5"))
    ∷ time_of_message layout_a partitions_a segments_a (message 1 (bytes "x")) ∷ time_of_message layout_a partitions_a segments_a (message 1 (bytes " ")) ∷ time_of_message layout_a partitions_a segments_a (message 5 (bytes "1.2.3"))
    ∷ time_of_message layout_b partitions_a segments_a (message 5 (bytes "1:1:0")) ∷ time_of_message layout_a partitions_a segments_a (message 16 (bytes "1000000000001001"))
    ∷ time_of_message layout_a partitions_a segments_a (message 3 (bytes "3/1")) ∷ time_of_message layout_a partitions_a segments_a (message 6 (bytes "1/50.1"))
    ∷ time_of_message layout_a partitions_a no_segments (message 5 (bytes "1/0.0")) ∷ time_of_message layout_a partitions_a late_segments (message 5 (bytes "1/0.0")) ∷ [])
    (numbered 21 ∷ numbered 22 ∷ numbered 23 ∷ numbered 1 ∷ placed 2 0 ∷ placed 5 0 ∷ numbered 6 ∷ placed 7 4 ∷ placed 8 4 ∷ placed 9 0 ∷ numbered 10 ∷ numbered 11 ∷ placed 3 0 ∷ numbered 13 ∷ [])
    time_of_message_refusals
    × Given
    (steps_back_in no_layout partitions_a segments_a ∷ steps_back_in layout_a no_partitions segments_a ∷ steps_back_in layout_a partitions_a no_segments ∷ [])
    (numbered 1 ∷ placed 2 0 ∷ placed 3 0 ∷ [])
    steps_back_refusals
unfolding computing bytes layout_a partitions_a segments_a layout_b text_refusals stamp_refusals message_refusals print_count_refusals print_stamp_refusals time_of_refusals count_at_refusals time_of_stamp_refusals time_of_message_refusals steps_back_refusals no_layout no_partitions no_segments late_segments too_long message
refusals_given = ((refl, refl), (refl, refl), (refl, refl), (refl, refl), (refl, refl), (refl, refl), (refl, refl), (refl, refl), (refl, refl), (refl, refl))

-- being in a set tells its numbers from others
pub in-a-set :
    (among 1 (1 ∷ 9 ∷ 16 ∷ []) ∷ among 9 (1 ∷ 9 ∷ 16 ∷ []) ∷ among 16 (1 ∷ 9 ∷ 16 ∷ []) ∷ among 0 (1 ∷ 9 ∷ 16 ∷ []) ∷ among 10 (1 ∷ 9 ∷ 16 ∷ []) ∷ among 17 (1 ∷ 9 ∷ 16 ∷ []) ∷ among 1 [] ∷ [])
    ≡ (true ∷ true ∷ true ∷ false ∷ false ∷ false ∷ false ∷ [])
unfolding among
in-a-set = refl
