-- The readings of request 3 by their examples, as one table with one statement. Every example is a refusal, most under table A.
use Rattle.std.specs.Prelude.{ℕ, ◌-◌, ◌*◌, ◌^◌, ◌≡◌, refl, List, [], ◌∷◌, ◌++◌, map, ℤ, pos, negsuc, length, replicate, take}
use Prim.Native.String.{String}
use Rattle.std.proofs.Math.Option.{Option, none, some}
use Rattle.rules.specs.declared.Layout.{Layout}
use Rattle.rules.specs.Answer.{Answer, answer, refused, numbered, placed, Numbered}
use Rattle.rules.specs.Partitions.{Partitions, partitions}
use Rattle.rules.specs.Segments.{Segments, segments}
use Rattle.rules.specs.Text.{read_text}
use Rattle.rules.specs.Stamp.{read_stamp}
use Rattle.rules.specs.Message.{read_message}
use Rattle.rules.specs.Print.{print_count, print_stamp}
use Rattle.rules.specs.Time.{time_of, count_at, steps_back_in}
use Rattle.rules.specs.Doubles.{msf_ok, forward_double}
use Rattle.rules.specs.Computing.{computing}
use Rattle.rules.specs.Examples.{bytes, layout_a, partitions_a, segments_a}
use Rattle.rules.specs.CallEdges.{no_layout, no_segments, one_field, tens}
use Rattle.rules.specs.DoubleExamples.{zeros}
use Rattle.places.specs.Bytes.{text_at_fault, digit_before, second_number, front_at_fault, at_fault_by, stamp_at_fault}
use Rattle.places.specs.Fields.{gap_between, ends_field, fields_ended, field_at, those}

-- What is asked. `tables` is the question whether they step back; the double form is asked with this MSF.
pub data Asked : Type 0 where
  text : Layout → List ℕ → Asked
  stamp : Layout → Partitions → List ℕ → Asked
  message : List ℕ → Asked
  tables : Layout → Partitions → Segments → Asked
  print_count_lem : ℕ → ℕ → Asked
  print_stamp_lem : ℕ → ℕ → Asked
  time_of_lem : Segments → ℕ → Asked
  count_at_lem : ℤ → Asked
  double : ℕ → Asked

pub refusal_in : {A : Type 0} → Answer A → Option Numbered
refusal_in (answer x) = none
refusal_in (refused k) = some k

-- under table A where the question names no table
pub refusal_to : Asked → Option Numbered
refusal_to (text l s) = refusal_in (read_text l s)
refusal_to (stamp l p s) = refusal_in (read_stamp l p s)
refusal_to (message m) = refusal_in (read_message layout_a partitions_a m)
refusal_to (tables l p g) = refusal_in (steps_back_in l p g)
refusal_to (print_count_lem c room) = refusal_in (print_count layout_a c room)
refusal_to (print_stamp_lem e room) = refusal_in (print_stamp layout_a partitions_a e room)
refusal_to (time_of_lem g e) = refusal_in (time_of layout_a partitions_a g e)
refusal_to (count_at_lem t) = refusal_in (count_at layout_a partitions_a segments_a t)
refusal_to (double msf) = refusal_in (forward_double zeros msf 0)

pub record PlaceCase : Type 0 where
  pub asked : Asked
  pub expected : Numbered

case : Asked → Numbered → PlaceCase
case q r = record { asked = q; expected = r }

text_a : String → Numbered → PlaceCase
text_a s r = case (text layout_a (bytes s)) r

stamp_a : String → Numbered → PlaceCase
stamp_a s r = case (stamp layout_a partitions_a (bytes s)) r

-- partitions and segments with table A's others
spans : Partitions → Numbered → PlaceCase
spans p r = case (tables layout_a p segments_a) r

rows : Segments → Numbered → PlaceCase
rows g r = case (tables layout_a partitions_a g) r

-- segments of these counts, their times 1 ns apart, a tick of 1 ns
counted : List ℕ → Segments
counted cs = segments cs (take (length cs) (pos 1 ∷ pos 2 ∷ pos 3 ∷ [])) (replicate (length cs) 10_000)

-- as many counts, times and rates
lists : ℕ → ℕ → ℕ → Segments
lists c t r = segments (replicate c 0) (replicate t (pos 0)) (replicate r 10_000)

pub places : List PlaceCase
places =
    -- "the earliest byte that can't stand where it is": before the first `/` blanks and one run of digits
    stamp_a "1.2/3" (placed 5 1)
    ∷ stamp_a "x1/2/" (placed 5 0)
    ∷ stamp_a "1x2/3" (placed 5 1)
    -- "with two numbers: the second": its first digit. "a front part empty or all blanks: its `/`". A second `/`
    ∷ stamp_a "1 2x/5" (placed 5 2)
    ∷ stamp_a "/5" (placed 5 0)
    ∷ stamp_a " /x" (placed 5 1)
    ∷ stamp_a " x /5" (placed 5 1)
    ∷ stamp_a "1/2/3" (placed 5 3)
    ∷ text_a "1 2/3" (placed 5 3)
    -- "the first digit of the first surplus field": the field after the n-th and no later one, also where it is empty
    ∷ text_a "1.2.3" (placed 7 4)
    ∷ text_a "1.2. 3.4" (placed 7 5)
    ∷ text_a "1.2..5" (placed 7 6)
    -- "the text's length": front part and blanks included; in a message from the text's first byte
    ∷ text_a "1.2. " (placed 7 5)
    ∷ stamp_a " 1 / 100000000000001 " (placed 9 21)
    ∷ case (message (0x07 ∷ 0xD0 ∷ bytes "1x" ++ (0x00 ∷ 0x02 ∷ []))) (placed 5 1)
    -- "the first digit of the field": leading zeros are digits
    ∷ text_a "1. 0009999999999999999" (placed 9 3)
    ∷ case (text (tens 1 1) (bytes "12 00")) (placed 8 3)
    ∷ case (stamp (tens 1 1) partitions_a (bytes "1/ 12.0 ")) (placed 8 6)
    -- no place: 1, 4, 6, 10 to 16, 21 to 23, and 9 of a print
    ∷ case (text no_layout (bytes "1")) (numbered 1)
    ∷ case (text layout_a (replicate 97 120)) (numbered 4)
    ∷ text_a ".5" (numbered 6)
    ∷ stamp_a "3/1" (numbered 10)
    ∷ stamp_a "1/50.1" (numbered 11)
    ∷ case (time_of_lem segments_a 1_201) (numbered 12)
    ∷ case (time_of_lem (counted (1 ∷ [])) 0) (numbered 13)
    ∷ case (count_at_lem (pos 2_803)) (numbered 14)
    ∷ case (double 0) (numbered 15)
    ∷ case (print_stamp_lem 0 5) (numbered 16)
    ∷ case (print_count_lem 1_000 96) (numbered 9)
    -- "the first row, from 0, that breaks a rule": the least row over all rules. A line's row is its own, judged at the next count as given
    ∷ rows (segments (0 ∷ (2 ^ 64 - 1) ∷ []) (negsuc 999 ∷ pos 1_000 ∷ []) (25_000 ∷ 30_000 ∷ [])) (placed 3 0)
    ∷ rows (segments (0 ∷ 5 ∷ []) (pos (4 * 10 ^ 18) ∷ pos 0 ∷ []) (10_000 ∷ 0 ∷ [])) (placed 3 0)
    ∷ spans (partitions (0 ∷ 5 ∷ []) (1_000 ∷ 5 ∷ [])) (placed 2 0)
    -- "for a count above the total the last"; "between two rows the later one"
    ∷ rows (counted (0 ∷ 1_300 ∷ 1_400 ∷ [])) (placed 3 2)
    ∷ rows (counted (0 ∷ 600 ∷ 600 ∷ [])) (placed 3 2)
    -- "for a sum the row that passes the limit"
    ∷ case (tables (one_field (10 ^ 15) 0) (partitions (replicate 3 0) ((10 ^ 15 - 1) ∷ 1 ∷ 1 ∷ [])) segments_a) (placed 2 2)
    -- "Wrong list lengths come first and give the shortest length": unequal, empty, too long
    ∷ spans (partitions (replicate 10_000 0) (replicate 10_000 1)) (placed 2 10_000)
    ∷ spans (partitions (9 ∷ 9 ∷ []) (1 ∷ [])) (placed 2 1)
    ∷ rows no_segments (placed 3 0)
    ∷ rows (lists 10_001 10_001 10_001) (placed 3 10_001)
    -- coefficients not in threes: 7 and 8
    ∷ rows (lists 3 2 2) (placed 3 2)
    ∷ rows (lists 3 3 2) (placed 3 2)
    -- "21 under 2 bytes, 22 L is 0, 23 L above 96 or too far back"
    ∷ case (message []) (numbered 21)
    ∷ case (message (0 ∷ [])) (numbered 21)
    ∷ case (message (0 ∷ 0 ∷ [])) (numbered 22)
    ∷ case (message (replicate 97 48 ++ (0 ∷ 97 ∷ []))) (numbered 23)
    ∷ case (message (48 ∷ 0 ∷ 2 ∷ [])) (numbered 23)
    ∷ []

pub places_hold : map (λ c. refusal_to c.asked) places ≡ map (λ c. some c.expected) places
unfolding computing msf_ok forward_double bytes layout_a partitions_a segments_a zeros no_layout no_segments one_field tens refusal_in refusal_to case text_a stamp_a spans rows counted lists places
places_hold = refl

-- `Bytes` by example: the bytes at fault, each by itself. An `x`, a second number's first digit, a second `/`; a `/` with no digit before it.
pub bytes_at_fault :
    (those (stamp_at_fault (bytes "x1 23/ 4/")) 0 9 ≡ (0 ∷ 3 ∷ 8 ∷ [])) × (those (stamp_at_fault (bytes "  /1.x")) 0 6 ≡ (2 ∷ 5 ∷ []))
unfolding computing bytes those text_at_fault digit_before second_number front_at_fault at_fault_by stamp_at_fault
bytes_at_fault = (refl, refl)

-- `Fields` by example: the fields of the digits at 1, 7, 8 and 10. Field 1 is empty; the blank between two digits ends field 2.
pub digits_in_fields : map (field_at (bytes " 1 : : 03 4") 0) (1 ∷ 7 ∷ 8 ∷ 10 ∷ []) ≡ (0 ∷ 2 ∷ 2 ∷ 3 ∷ [])
unfolding computing bytes gap_between ends_field fields_ended
digits_in_fields = refl
