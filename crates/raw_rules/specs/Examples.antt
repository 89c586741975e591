-- Raw counters and seconds by hand: the numbers that the request names, and each limit at its edge and one beyond.
use Rattle.std.specs.Prelude.{ℕ, ◌≡◌, refl, true, false, List, [], ◌∷◌, map}
use Rattle.rules.specs.declared.Layout.{Layout}
use Rattle.rules.specs.Answer.{Answer, answer, refuse, refuse_at}
use Rattle.rules.specs.Partitions.{Partitions, partitions}
use Rattle.rules.specs.Computing.{computing}
use Rattle.rules.specs.Examples.{layout_a, partitions_a}
use Rattle.rules.specs.CallEdges.{no_layout, no_partitions}
use Rattle.raw_rules.specs.declared.RawCounter.{RawCounter}
use Rattle.raw_rules.specs.Counter.{raw_difference, reset_raw, not_past, read_raw, counter_after}
use Rattle.raw_rules.specs.Seconds.{subtick_of, with_carry, read_seconds}
use Rattle.raw_rules.specs.Calls.{Call, reset, read, call_answer, after_call, after_calls}

-- a counter before any accepted reset, and after one
abbrev pub new : ℕ → ℕ → RawCounter
new raw e = record { started = false; raw = raw; count = e }

abbrev pub at : ℕ → ℕ → RawCounter
at raw e = record { started = true; raw = raw; count = e }

-- one field and one partition, whose total is 10^15 - 1
unfoldable pub long_layout : Layout
long_layout =
    record {
      n = 1;
      moduli = 1_000_000_000_000_000 ∷ 0 ∷ 0 ∷ 0 ∷ 0 ∷ 0 ∷ 0 ∷ 0 ∷ 0 ∷ 0 ∷ [];
      offsets = 0 ∷ 0 ∷ 0 ∷ 0 ∷ 0 ∷ 0 ∷ 0 ∷ 0 ∷ 0 ∷ 0 ∷ [];
      delimiter = 1;
    }

unfoldable pub long_partitions : Partitions
long_partitions = partitions (0 ∷ []) (999_999_999_999_999 ∷ [])

-- table A as it was before its second partition
unfoldable pub first_of_a : Partitions
first_of_a = partitions (0 ∷ []) (500 ∷ [])

-- three partitions, none from 0, of 10, 20 and 30 ticks
unfoldable pub three_partitions : Partitions
three_partitions = partitions (5 ∷ 100 ∷ 7 ∷ []) (15 ∷ 120 ∷ 37 ∷ [])

-- calls under table A, and under the long table
abbrev pub reset_a : ℕ → ℕ → Call
reset_a number raw = reset layout_a partitions_a number raw

abbrev pub reading_a : ℕ → Call
reading_a raw = read layout_a partitions_a raw

abbrev pub reading_long : ℕ → Call
reading_long raw = read long_layout long_partitions raw

-- Calls on a counter, their answers, and the counter after them.
pub record Run : Type 0 where
  pub counter : RawCounter
  pub calls : List Call
  pub answers : List (Answer ℕ)
  pub left : RawCounter

unfoldable pub run : RawCounter → List Call → List (Answer ℕ) → RawCounter → Run
run c xs given left = record { counter = c; calls = xs; answers = given; left = left }

unfoldable pub call_answers : RawCounter → List Call → List (Answer ℕ)
call_answers c [] = []
call_answers c (x ∷ xs) = call_answer c x ∷ call_answers (after_call c x) xs

unfoldable pub runs : List Run
runs =
    -- a reset to the last partition, and a counter that rolls over
    run (new 0 0) (reset_a 2 4_294_967_293 ∷ reading_a 4 ∷ []) (answer 500 ∷ answer 507 ∷ []) (at 4 507)
    ∷ run (new 0 0) (reset_a 1 4_294_967_290 ∷ reading_a 5 ∷ []) (answer 0 ∷ answer 11 ∷ []) (at 5 11)
    -- past the partition's end; an equal raw number
    ∷ run (new 0 0) (reset_a 1 0 ∷ reading_a 600 ∷ reading_a 600 ∷ []) (answer 0 ∷ answer 600 ∷ answer 600 ∷ []) (at 600 600)
    -- past the total, then the total itself
    ∷ run (new 0 0) (reset_a 1 0 ∷ reading_a 1_201 ∷ reading_a 1_200 ∷ []) (answer 0 ∷ refuse 12 ∷ answer 1_200 ∷ []) (at 1_200 1_200)
    -- a second reset, and a third with no reading between
    ∷ run (new 0 0) (reset_a 1 7 ∷ reading_a 107 ∷ reset_a 2 7 ∷ reading_a 8 ∷ reset_a 2 3 ∷ reset_a 1 9 ∷ []) (answer 0 ∷ answer 100 ∷ answer 500 ∷ answer 501 ∷ answer 500 ∷ answer 0 ∷ []) (at 9 0)
    -- partitions that there are not
    ∷ run (at 3 77) (reset_a 0 9 ∷ reset_a 3 9 ∷ reset_a 18_446_744_073_709_551_615 9 ∷ reading_a 4 ∷ []) (refuse 10 ∷ refuse 10 ∷ refuse 10 ∷ answer 78 ∷ []) (at 4 78)
    -- before any accepted reset: the layout and the partitions come first, and 27 before 12
    ∷ run (new 3 77) (reading_a 4 ∷ reset_a 3 9 ∷ reading_a 4 ∷ read no_layout partitions_a 4 ∷ read layout_a no_partitions 4 ∷ reading_a 2 ∷ []) (refuse 27 ∷ refuse 10 ∷ refuse 27 ∷ refuse 1 ∷ refuse_at 2 0 ∷ refuse 27 ∷ []) (new 3 77)
    -- tables that are refused, with a reset and without one
    ∷ run (at 3 77) (read no_layout partitions_a 4 ∷ read layout_a no_partitions 4 ∷ reset no_layout partitions_a 1 4 ∷ reset layout_a no_partitions 1 4 ∷ []) (refuse 1 ∷ refuse_at 2 0 ∷ refuse 1 ∷ refuse_at 2 0 ∷ []) (at 3 77)
    -- the total is that of the call's own table
    ∷ run (at 0 500) (read layout_a first_of_a 1 ∷ reading_a 1 ∷ read layout_a first_of_a 1 ∷ reset layout_a first_of_a 2 1 ∷ []) (refuse 12 ∷ answer 501 ∷ refuse 12 ∷ refuse 10 ∷ []) (at 1 501)
    -- a reset's start is the sum of all earlier lengths
    ∷ run (new 0 0) (reset layout_a three_partitions 1 9 ∷ reset layout_a three_partitions 2 9 ∷ reset layout_a three_partitions 3 9 ∷ read layout_a three_partitions 39 ∷ read layout_a three_partitions 40 ∷ []) (answer 0 ∷ answer 10 ∷ answer 30 ∷ answer 60 ∷ refuse 12 ∷ []) (at 39 60)
    -- the largest difference; no sum wraps
    ∷ run (at 1 0) (reading_a 0 ∷ reading_long 0 ∷ reading_long 4_294_967_295 ∷ []) (refuse 12 ∷ answer 4_294_967_295 ∷ answer 8_589_934_590 ∷ []) (at 4_294_967_295 8_589_934_590)
    ∷ run (at 0 18_446_744_073_709_551_615) (reading_long 0 ∷ reading_long 1 ∷ reading_long 4_294_967_295 ∷ []) (refuse 12 ∷ refuse 12 ∷ refuse 12 ∷ []) (at 0 18_446_744_073_709_551_615)
    ∷ []

pub runs_hold : (map (λ r. call_answers r.counter r.calls) runs ≡ map (λ r. r.answers) runs) × (map (λ r. after_calls r.counter r.calls) runs ≡ map (λ r. r.left) runs)
unfolding computing layout_a partitions_a no_layout no_partitions long_layout long_partitions first_of_a three_partitions raw_difference reset_raw not_past read_raw counter_after call_answer after_call after_calls call_answers run runs
runs_hold = (refl, refl)

pub record Second : Type 0 where
  pub seconds : ℕ
  pub microseconds : ℕ
  pub answered : Answer ℕ

unfoldable pub second : ℕ → ℕ → Answer ℕ → Second
second s us a = record { seconds = s; microseconds = us; answered = a }

-- "998,046 us gives 255, 998,047 carries"; the edges of document 002's first rows; the last second
unfoldable pub second_cases : List Second
second_cases =
    second 0 0 (answer 0)
    ∷ second 0 998_046 (answer 255)
    ∷ second 0 998_047 (answer 256)
    ∷ second 0 1_952 (answer 0)
    ∷ second 0 1_953 (answer 1)
    ∷ second 0 5_858 (answer 1)
    ∷ second 0 5_859 (answer 2)
    ∷ second 1 998_046 (answer 511)
    ∷ second 1 998_047 (answer 512)
    ∷ second 1 999_999 (answer 512)
    ∷ second 4_294_967_295 998_046 (answer 1_099_511_627_775)
    ∷ second 4_294_967_295 999_999 (answer 1_099_511_627_776)
    ∷ second 1 1_000_000 (refuse 24)
    ∷ second 4_294_967_295 4_294_967_295 (refuse 24)
    ∷ []

pub seconds_hold : map (λ s. read_seconds s.seconds s.microseconds) second_cases ≡ map (λ s. s.answered) second_cases
unfolding computing subtick_of with_carry read_seconds second second_cases
seconds_hold = refl
