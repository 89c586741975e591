-- Nothing that is asked of the two tables can be left out: for each hypothesis two small accepted tables that break it alone,
-- and a question whose two replies break the claim. The exception too can't be left out, nor the seam, nor any of the numbers with which the older refuses.
use Rattle.std.specs.Prelude.{ℕ, ◌≡◌, true, List, [], ◌∷◌, map, ℤ, pos, length, take, replicate}
use Prim.Native.String.{String}
use Rattle.base.specs.Scans.{among}
use Rattle.rules.specs.declared.Layout.{Layout}
use Rattle.rules.specs.declared.Reading.{Reading}
use Rattle.rules.specs.declared.TimeOfCount.{TimeOfCount}
use Rattle.rules.specs.declared.CountAtTime.{CountAtTime}
use Rattle.rules.specs.Answer.{Answer, answer, refused, refuse, reading, time_of_count, count_at_time, Numbered}
use Rattle.rules.specs.Partitions.{Partitions, partitions}
use Rattle.rules.specs.Segments.{Segments, segments}
use Rattle.rules.specs.Examples.{bytes, layout_a, partitions_a, segments_a}
use Rattle.roundtrip.specs.RoundTrip.{TenSlots}
use Rattle.versions.specs.Versions.{Table, Accepted, Hypothesis, Says, read_by, PrintedAnswer, printed, time_by, count_by, Agree, older_refuses_stamp, older_refuses_count, older_refuses_time, Exception, Demand3}
use Rattle.versions.specs.Seam.{SaysAtSeam}
use Rattle.versions.specs.Versions.{same-n, same_moduli, same_offsets, same-delimiter, kept-starts, kept-ends, last_end, kept-counts, kept-times, kept-rates, further-counts, no_step_back}

-- a clock of n fields: the moduli of the first two, the offset of the first, the delimiter
abbrev pub clock : ℕ → ℕ → ℕ → ℕ → ℕ → Layout
clock n first second offset delimiter =
    record {
      n = n;
      moduli = first ∷ second ∷ 0 ∷ 0 ∷ 0 ∷ 0 ∷ 0 ∷ 0 ∷ 0 ∷ 0 ∷ [];
      offsets = offset ∷ 0 ∷ 0 ∷ 0 ∷ 0 ∷ 0 ∷ 0 ∷ 0 ∷ 0 ∷ 0 ∷ [];
      delimiter = delimiter;
    }

abbrev pub table : Layout → Partitions → Segments → Table
table l p g = record { layout = l; partitions = p; segments = g }

-- The smallest table: modulus 3, partition 0..1, segment (0, 0, 1000). The others are that table with another layout, other partitions, other segments.
abbrev pub under : Layout → Table
under l = table l (partitions (0 ∷ []) (1 ∷ [])) (segments (0 ∷ []) (pos 0 ∷ []) (1_000 ∷ []))

abbrev pub smallest : Table
smallest = under (clock 1 3 1 0 1)

abbrev pub over : List ℕ → List ℕ → Table
over starts ends = table smallest.layout (partitions starts ends) smallest.segments

abbrev pub along : List ℕ → List ℤ → List ℕ → Table
along counts times rates = table smallest.layout smallest.partitions (segments counts times rates)

pub data TableQuestion : Type 0 where
  stamp : String → TableQuestion
  print : ℕ → TableQuestion
  time : ℕ → TableQuestion
  count : ℤ → TableQuestion

pub data TableReply : Type 0 where
  read : Answer Reading → TableReply
  print_out : Answer PrintedAnswer → TableReply
  timed : Answer TimeOfCount → TableReply
  counted : Answer CountAtTime → TableReply

-- printing goes to 96 bytes of 0
unfoldable pub ask : Table → TableQuestion → TableReply
ask t (stamp s) = read (read_by t (bytes s))
ask t (print e) = print_out (printed t e (replicate 96 0))
ask t (time e) = timed (time_by t e)
ask t (count at) = counted (count_by t at)

abbrev pub read_is : ℕ → TableReply
read_is n = read (answer (reading n))

abbrev pub count_is : ℕ → TableReply
count_is n = counted (answer (count_at_time n))

abbrev pub time_is : ℕ → TableReply
time_is n = timed (answer (time_of_count (pos n)))

-- the answer of a print
abbrev pub prints : String → Answer PrintedAnswer
prints s = answer (record { returned = length (bytes s); bytes = bytes s })

abbrev pub print_is : String → TableReply
print_is s = print_out (prints s)

pub record Row : Type 0 where
  pub older : Table
  pub newer : Table
  pub asked : TableQuestion
  pub older_says : TableReply
  pub newer_says : TableReply

abbrev pub row : Table → Table → TableQuestion → TableReply → TableReply → Row
row o n q r s = record { older = o; newer = n; asked = q; older_says = r; newer_says = s }

unfoldable pub pair : Hypothesis → Row
-- another n, modulus, offset, delimiter
pair same-n = row (under (clock 1 3 1 0 1)) (under (clock 2 3 1 0 1)) (print 1) (print_is "1/1") (print_is "1/1.0")
pair same_moduli = row (under (clock 1 3 1 0 1)) (under (clock 1 11 1 0 1)) (print 1) (print_is "1/1") (print_is "1/01")
pair same_offsets = row (under (clock 1 3 1 0 1)) (under (clock 1 3 1 1 1)) (print 1) (print_is "1/1") (print_is "1/2")
pair same-delimiter = row (under (clock 2 3 1 0 1)) (under (clock 2 3 1 0 2)) (print 1) (print_is "1/1.0") (print_is "1/1:0")
-- a changed start, a changed inner end, a smaller last end
pair kept-starts = row (over (0 ∷ []) (2 ∷ [])) (over (1 ∷ []) (2 ∷ [])) (stamp "1/2") (read_is 2) (read_is 1)
pair kept-ends = row (over (0 ∷ 0 ∷ []) (1 ∷ 1 ∷ [])) (over (0 ∷ 0 ∷ []) (2 ∷ 1 ∷ [])) (print 1) (print_is "2/0") (print_is "1/1")
pair last_end = row (over (0 ∷ []) (2 ∷ [])) (over (0 ∷ []) (1 ∷ [])) (print 2) (print_is "1/2") (print_out (refuse 12))
-- a segment with another count, time, rate
pair kept-counts = row smallest (along (1 ∷ []) (pos 0 ∷ []) (1_000 ∷ [])) (time 1) (time_is 1) (time_is 0)
pair kept-times = row smallest (along (0 ∷ []) (pos 1 ∷ []) (1_000 ∷ [])) (time 1) (time_is 1) (time_is 2)
pair kept-rates = row smallest (along (0 ∷ []) (pos 0 ∷ []) (2_000 ∷ [])) (time 1) (time_is 1) (time_is 2)
-- a segment at the older's total
pair further-counts = row smallest (along (0 ∷ 1 ∷ []) (pos 0 ∷ pos 2 ∷ []) (1_000 ∷ 1_000 ∷ [])) (time 1) (time_is 1) (time_is 2)
-- a further segment that the one before it runs past
pair no_step_back =
    row
    smallest
    (table (clock 1 3 1 0 1) (partitions (0 ∷ 0 ∷ []) (1 ∷ 1 ∷ [])) (segments (0 ∷ 2 ∷ []) (pos 0 ∷ pos 1 ∷ []) (1_000 ∷ 1_000 ∷ [])))
    (count (pos 1))
    (count_is 1)
    (count_is 2)

-- r shows that the hypothesis h is needed: both tables are accepted and meet every other one but not h, and the claim is false of them.
pub record Needed (h : Hypothesis) (r : Row) : Type 0 where
  pub accepted_older : Accepted r.older
  pub accepted_newer : Accepted r.newer
  pub others : (k : Hypothesis) → (k ≡ h → ⊥) → Says r.older r.newer k
  pub broken : Says r.older r.newer h → ⊥
  pub older_replies : ask r.older r.asked ≡ r.older_says
  pub newer_replies : ask r.newer r.asked ≡ r.newer_says
  pub fails : Demand3 r.older r.newer → ⊥

-- The seam can't be left out: the two tables of `pair no_step_back` meet every other hypothesis, and break the claim.
abbrev pub SeamNeeded : Type 0
SeamNeeded = SaysAtSeam (pair no_step_back).older (pair no_step_back).newer no_step_back → ⊥

-- Two tables whose first row steps back, where the third segment is added: named by their totals.
abbrev pub back_two : Table
back_two = table (clock 1 3 1 0 1) (partitions (0 ∷ 0 ∷ []) (1 ∷ 1 ∷ [])) (segments (0 ∷ 2 ∷ []) (pos 0 ∷ pos 1 ∷ []) (1_000 ∷ 1_000 ∷ []))

abbrev pub back_three : Table
back_three =
    table
    (clock 1 3 1 0 1)
    (partitions (0 ∷ 0 ∷ 0 ∷ []) (1 ∷ 1 ∷ 1 ∷ []))
    (segments (0 ∷ 2 ∷ 3 ∷ []) (pos 0 ∷ pos 1 ∷ pos 2 ∷ []) (1_000 ∷ 1_000 ∷ 1_000 ∷ []))

-- To ask the seam alone is to ask less: these two step back, and meet all that is asked with the seam.
pub record SeamAsksLess : Type 0 where
  pub accepted_older : Accepted back_two
  pub accepted_newer : Accepted back_three
  pub says : (h : Hypothesis) → SaysAtSeam back_two back_three h
  pub steps_back_lem : Says back_two back_three no_step_back → ⊥

-- For the exception, named by their totals: nine partitions 0..1, and the newer adds a tenth.
abbrev pub nine : Table
nine = over (replicate 9 0) (replicate 9 1)

abbrev pub ten : Table
ten = over (replicate 10 0) (replicate 10 1)

-- the two tables print 9 into so many bytes
abbrev pub by_nine : ℕ → Answer PrintedAnswer
by_nine room = printed nine 9 (replicate room 0)

abbrev pub by_ten : ℕ → Answer PrintedAnswer
by_ten room = printed ten 9 (replicate room 0)

-- The exception is needed: the two tables meet every hypothesis, and on 9 the newer gives another answer, or none.
pub record ExceptionNeeded : Type 0 where
  pub accepted_older : Accepted nine
  pub accepted_newer : Accepted ten
  pub says : (h : Hypothesis) → Says nine ten h
  pub older_into_four : by_nine 4 ≡ prints "9/1"
  pub newer_into_four : by_ten 4 ≡ prints "10/0"
  pub not_the_same : Agree older_refuses_count (by_nine 4) (by_ten 4) → ⊥
  pub older_into_three : by_nine 3 ≡ prints "9/1"
  pub newer_into_three : by_ten 3 ≡ refuse 16
  pub not_answered : Agree older_refuses_count (by_nine 3) (by_ten 3) → ⊥

-- It is needed for "the same answer" alone. Since request 2 the newer's print is never the shorter one, so that
-- "Where only the newer answers, the older refuses .. a count to print .. with 12" holds without an exception.
abbrev pub RefusedEverywhere : Type 0
RefusedEverywhere =
    (older newer : Table) → Accepted older → Accepted newer → ((h : Hypothesis) → Says older newer h) → TenSlots older.layout
    → (e : ℕ) (b c : List ℕ) → length b ≡ length c → (a : PrintedAnswer) (k : Numbered) → printed newer e c ≡ answer a → printed older e b ≡ refused k
    → among k.number older_refuses_count ≡ true

abbrev pub table_a : Table
table_a = table layout_a partitions_a segments_a

-- "Table A cut to its first partition and segment"
abbrev pub cut_a : Table
cut_a =
    table
    layout_a
    (partitions (take 1 partitions_a.starts) (take 1 partitions_a.ends))
    (segments (take 1 segments_a.counts) (take 1 segments_a.times) (take 1 segments_a.rates))

-- Demand 3 is not empty: the two meet every hypothesis, and printing 500 is "the exception in demand 3".
pub record Witness : Type 0 where
  pub accepted_older : Accepted cut_a
  pub accepted_newer : Accepted table_a
  pub says : (h : Hypothesis) → Says cut_a table_a h
  pub exception : Exception cut_a table_a 500
  pub older_prints : ask cut_a (print 500) ≡ print_is "1/50.0"
  pub newer_prints : ask table_a (print 500) ≡ print_is "2/20.0"

-- Each number with which the older may refuse is given where the newer answers: a stamp in a partition that the older has not, or of a count
-- that is in none of its partitions; an encoded count above its total, to print or to turn into time; a time whose answer is above it.
pub record NumbersGiven : Type 0 where
  pub stamps_refused : map (λ s. read_by cut_a (bytes s)) ("2/20.0" ∷ "50.1" ∷ []) ≡ map refuse older_refuses_stamp
  pub stamps_read : map (λ s. read_by table_a (bytes s)) ("2/20.0" ∷ "50.1" ∷ []) ≡ (answer (reading 500) ∷ answer (reading 801) ∷ [])
  pub print_refused : (printed cut_a 501 (replicate 6 0) ∷ []) ≡ map refuse older_refuses_count
  pub print_given : (printed table_a 501 (replicate 6 0) ∷ []) ≡ (prints "2/20.1" ∷ [])
  pub time_refused : (time_by cut_a 501 ∷ []) ≡ map refuse older_refuses_count
  pub time_given : (time_by table_a 501 ∷ []) ≡ (answer (time_of_count (pos 253)) ∷ [])
  pub count_refused : (count_by cut_a (pos 253) ∷ []) ≡ map refuse older_refuses_time
  pub count_given : (count_by table_a (pos 253) ∷ []) ≡ (answer (count_at_time 501) ∷ [])
