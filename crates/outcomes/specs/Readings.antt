-- The readings of document 01 on text, stamps and messages, with the places of request 3, and the limits of text, as one table with one statement.
use Rattle.std.specs.Prelude.{ℕ, ◌-◌, ◌^◌, ◌≡◌, refl, List, [], ◌∷◌, ◌++◌, map, replicate}
use Prim.Native.String.{String}
use Rattle.rules.specs.declared.Layout.{Layout}
use Rattle.rules.specs.declared.Reading.{Reading}
use Rattle.rules.specs.Answer.{Answer, answer, refuse, refuse_at, reading}
use Rattle.rules.specs.Partitions.{Partitions}
use Rattle.rules.specs.Text.{read_text}
use Rattle.rules.specs.Stamp.{read_stamp}
use Rattle.rules.specs.Message.{read_message}
use Rattle.rules.specs.Computing.{computing}
use Rattle.rules.specs.Examples.{bytes, layout_a, partitions_a, layout_b}
use Rattle.rules.specs.CallEdges.{no_layout, no_partitions}

pub data ToRead : Type 0 where
  text : Layout → List ℕ → ToRead
  stamp : Layout → Partitions → List ℕ → ToRead
  message : Layout → Partitions → List ℕ → ToRead

pub answer_to : ToRead → Answer Reading
answer_to (text l s) = read_text l s
answer_to (stamp l p s) = read_stamp l p s
answer_to (message l p m) = read_message l p m

pub record ReadingCase : Type 0 where
  pub asked : ToRead
  pub expected : Answer Reading

reads_as : ℕ → Answer Reading
reads_as c = answer (reading c)

-- under table A
text_a : String → Answer Reading → ReadingCase
text_a s a = record { asked = text layout_a (bytes s); expected = a }

stamp_a : String → Answer Reading → ReadingCase
stamp_a s a = record { asked = stamp layout_a partitions_a (bytes s); expected = a }

bytes_a : List ℕ → Answer Reading → ReadingCase
bytes_a s a = record { asked = stamp layout_a partitions_a s; expected = a }

message_a : List ℕ → Answer Reading → ReadingCase
message_a m a = record { asked = message layout_a partitions_a m; expected = a }

-- under another layout, of the moduli and offsets given
layout : ℕ → List ℕ → List ℕ → Layout
layout n ms os = record { n = n; moduli = ms ++ replicate (10 - n) 0; offsets = os ++ replicate (10 - n) 0; delimiter = 1 }

under : Layout → String → Answer Reading → ReadingCase
under l s a = record { asked = text l (bytes s); expected = a }

one : Layout
one = layout 1 (100 ∷ []) (0 ∷ [])

three : Layout
three = layout 3 (100 ∷ 10 ∷ 10 ∷ []) (0 ∷ 0 ∷ 0 ∷ [])

-- the second offset is 1; the first is; the one offset is the largest
offset_one : Layout
offset_one = layout 2 (100 ∷ 10 ∷ []) (0 ∷ 1 ∷ [])

first_one : Layout
first_one = layout 2 (100 ∷ 10 ∷ []) (1 ∷ 0 ∷ [])

far : Layout
far = layout 1 ((10 ^ 15) ∷ []) (1_000 ∷ [])

nines : ℕ → List ℕ
nines k = replicate k 57

zeros : ℕ → List ℕ
zeros k = replicate k 48

blanks : ℕ → List ℕ
blanks k = replicate k 32

pub readings : List ReadingCase
readings =
    -- 96 bytes, blanks and partition included; a blank is byte 32 and nothing else
    bytes_a (blanks 91 ++ bytes "1/5.3") (reads_as 53)
    ∷ bytes_a (blanks 92 ++ bytes "1/5.3") (refuse 4)
    ∷ bytes_a (zeros 93 ++ bytes "5.3") (reads_as 53)
    ∷ bytes_a (zeros 94 ++ bytes "5.3") (refuse 4)
    ∷ bytes_a (blanks 97) (refuse 4)
    ∷ bytes_a (blanks 96 ++ bytes "x") (refuse 4)
    ∷ bytes_a (blanks 95 ++ bytes "x") (refuse_at 5 95)
    ∷ bytes_a (bytes "5.3" ++ (9 ∷ [])) (refuse_at 5 3)
    ∷ bytes_a (bytes "5.3" ++ (13 ∷ [])) (refuse_at 5 3)
    ∷ bytes_a (bytes "5.3" ++ (0 ∷ [])) (refuse_at 5 3)
    ∷ bytes_a (bytes "5.3" ++ (32 ∷ [])) (reads_as 53)
    -- a trailing mark opens one more, empty field; 5 before 7, 7 before 6
    ∷ text_a "12.3" (reads_as 123)
    ∷ text_a "12" (reads_as 120)
    ∷ text_a "12." (reads_as 120)
    ∷ text_a "12.." (refuse_at 7 4)
    ∷ under one "5." (refuse_at 7 2)
    ∷ text_a "..x" (refuse_at 5 2)
    ∷ text_a ".." (refuse_at 7 2)
    ∷ text_a "." (refuse 6)
    ∷ text_a "" (refuse 6)
    -- blanks around a mark are dropped; a run of blanks between digits is a mark
    ∷ under three " 1 : : 3" (reads_as 103)
    ∷ text_a " 1 : : 3" (refuse_at 7 7)
    ∷ text_a " 12   3 " (reads_as 123)
    ∷ text_a "1 2 3" (refuse_at 7 4)
    ∷ text_a "   " (refuse 6)
    -- values are compared, not lengths
    ∷ text_a "00000000000000000000012.3" (reads_as 123)
    ∷ stamp_a "00000000000000000000001/5.3" (reads_as 53)
    ∷ bytes_a (nines 96) (refuse_at 9 0)
    ∷ bytes_a (nines 94 ++ bytes "/1") (refuse 10)
    ∷ stamp_a "18446744073709551617/1" (refuse 10)
    ∷ text_a "18446744073709551617" (refuse_at 9 0)
    -- a field may exceed its modulus, the first too; reading gives no 9 for a count at or above P
    ∷ text_a "5.13" (reads_as 63)
    ∷ text_a "100.0" (reads_as 1_000)
    ∷ stamp_a "100.0" (refuse 11)
    -- a field of 10^15 + 1,000, and one more
    ∷ under far "1000000000001000" (reads_as (10 ^ 15))
    ∷ under far "1000000000001001" (refuse_at 9 0)
    -- a sum of 10^15, and one more
    ∷ text_a "99999999999999.10" (reads_as (10 ^ 15))
    ∷ text_a "99999999999999.11" (refuse_at 9 17)
    -- 7 and 6 before a field's 9 and 8; fields left to right; the sum's 9 comes after every field
    ∷ text_a "1.2.9999999999999999" (refuse_at 7 4)
    ∷ text_a ".9999999999999999" (refuse 6)
    ∷ under offset_one ".0" (refuse 6)
    ∷ under offset_one "9999999999999999.0" (refuse_at 9 0)
    ∷ under first_one "0.9999999999999999" (refuse_at 8 0)
    ∷ under offset_one "999999999999999.0" (refuse_at 8 16)
    -- a missing field adds no ticks whatever its offset; one below its offset is refused
    ∷ under layout_b "20538:39" (reads_as 985_855_200)
    ∷ under layout_b "20538:39:" (reads_as 985_855_200)
    ∷ under layout_b "20538:39:0" (refuse_at 8 9)
    ∷ under layout_b "20538:39:1" (reads_as 985_855_200)
    -- a partition is refused after all that concerns the text
    ∷ stamp_a "0/" (refuse 6)
    ∷ stamp_a "0/x" (refuse_at 5 2)
    ∷ stamp_a "3/9999999999999999" (refuse_at 9 2)
    ∷ stamp_a "3/100000000000000.1" (refuse_at 9 19)
    ∷ stamp_a "0/99.9" (refuse 10)
    ∷ stamp_a "0/1" (refuse 10)
    -- the last partition, and one more
    ∷ stamp_a "2/20.0" (reads_as 500)
    ∷ stamp_a "3/20.0" (refuse 10)
    -- the front part: digits between blanks
    ∷ stamp_a "/5" (refuse_at 5 0)
    ∷ stamp_a " /5" (refuse_at 5 1)
    ∷ stamp_a "1 2/5" (refuse_at 5 2)
    ∷ stamp_a "1.2/5" (refuse_at 5 1)
    ∷ stamp_a "1./5" (refuse_at 5 1)
    ∷ stamp_a ".1/5" (refuse_at 5 0)
    ∷ stamp_a "1x/5" (refuse_at 5 1)
    ∷ stamp_a "/" (refuse_at 5 0)
    ∷ stamp_a "/1.2.3" (refuse_at 5 0)
    ∷ stamp_a "1/2/5" (refuse_at 5 3)
    ∷ text_a "1/5" (refuse_at 5 1)
    ∷ stamp_a "1/" (refuse 6)
    ∷ stamp_a " 1 / 5.3" (reads_as 53)
    -- request 3: the earliest byte, the first surplus field, the first digit, the text's length; in a message from the text's first byte
    ∷ stamp_a "x1/2/" (refuse_at 5 0)
    ∷ stamp_a "1x2/3" (refuse_at 5 1)
    ∷ stamp_a "1 2x/5" (refuse_at 5 2)
    ∷ stamp_a " /x" (refuse_at 5 1)
    ∷ stamp_a " x /5" (refuse_at 5 1)
    ∷ text_a "1 2/3" (refuse_at 5 3)
    ∷ text_a "1.2..5" (refuse_at 7 6)
    ∷ text_a "1.2. " (refuse_at 7 5)
    ∷ under offset_one "1. 00" (refuse_at 8 3)
    ∷ text_a "1. 0009999999999999999" (refuse_at 9 3)
    ∷ stamp_a " 1 / 100000000000001 " (refuse_at 9 21)
    ∷ message_a (7 ∷ 208 ∷ (bytes "1x" ++ (0 ∷ 2 ∷ []))) (refuse_at 5 1)
    -- a start and an end belong to their partition, named or not
    ∷ stamp_a "2/19.9" (refuse 11)
    ∷ stamp_a "30.0" (reads_as 300)
    ∷ stamp_a "50.0" (reads_as 500)
    ∷ stamp_a "50.1" (reads_as 801)
    ∷ stamp_a "1/50.0" (reads_as 500)
    ∷ stamp_a "1/50.1" (refuse 11)
    ∷ stamp_a "2/90.0" (reads_as 1_200)
    ∷ stamp_a "90.1" (refuse 11)
    -- the message: L from 1, at most the length less 2, 96 and 97; 21, 22 and 23 before 1 and 2
    ∷ message_a (7 ∷ 208 ∷ (bytes "1/5.3" ++ (0 ∷ 5 ∷ []))) (reads_as 53)
    ∷ message_a (7 ∷ 208 ∷ (bytes "1/5.3" ++ (0 ∷ 8 ∷ []))) (refuse 23)
    ∷ message_a (bytes "1/5.3" ++ (0 ∷ 5 ∷ [])) (reads_as 53)
    ∷ message_a (bytes "1/5.3" ++ (0 ∷ 6 ∷ [])) (refuse 23)
    ∷ message_a (bytes "1/5.3" ++ (0 ∷ 0 ∷ [])) (refuse 22)
    ∷ message_a (bytes "1/5.3" ++ (1 ∷ 5 ∷ [])) (refuse 23)
    ∷ message_a (zeros 97 ++ (1 ∷ 0 ∷ [])) (refuse 23)
    ∷ message_a (zeros 94 ++ bytes "5.3" ++ (0 ∷ 96 ∷ [])) (reads_as 53)
    ∷ message_a (zeros 94 ++ bytes "5.3" ++ (0 ∷ 97 ∷ [])) (refuse 23)
    ∷ message_a [] (refuse 21)
    ∷ message_a (0 ∷ []) (refuse 21)
    ∷ message_a (0 ∷ 0 ∷ []) (refuse 22)
    ∷ message_a (255 ∷ 255 ∷ []) (refuse 23)
    ∷ record { asked = message no_layout no_partitions (0 ∷ 0 ∷ []); expected = refuse 22 }
    ∷ record { asked = message no_layout no_partitions (bytes "5.3" ++ (0 ∷ 3 ∷ [])); expected = refuse 1 }
    ∷ record { asked = message layout_a no_partitions (bytes "5.3" ++ (0 ∷ 3 ∷ [])); expected = refuse_at 2 0 }
    -- 1, then 2, then 4
    ∷ record { asked = text no_layout (blanks 97); expected = refuse 1 }
    ∷ record { asked = stamp no_layout no_partitions (blanks 97); expected = refuse 1 }
    ∷ record { asked = stamp layout_a no_partitions (blanks 97); expected = refuse_at 2 0 }
    ∷ []

pub readings_hold : map (λ r. answer_to r.asked) readings ≡ map (λ r. r.expected) readings
unfolding computing bytes layout_a partitions_a layout_b answer_to reads_as text_a stamp_a bytes_a message_a layout under one three offset_one first_one far no_layout no_partitions nines zeros blanks readings
readings_hold = refl
