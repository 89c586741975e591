-- The limits of the calls themselves, each at its edge and one beyond, and the order of refusals where two faults meet: a table with one
-- statement for each kind of call. Then what the code's answers mean.
use Rattle.std.specs.Prelude.{ℕ, zero, suc, ◌+◌, ◌-◌, ◌*◌, ◌^◌, ◌≡◌, refl, Bool, true, false, cond, List, [], ◌∷◌, ◌++◌, map, pos, negsuc, length, replicate, Some, None, Ok, Err}
use Prim.Native.String.{String}
use Rattle.std.specs.Float.{nan, inf}
use Rattle.rules.specs.declared.Layout.{Layout}
use Rattle.rules.specs.declared.Reading.{Reading}
use Rattle.rules.specs.declared.refusal.Refusal.{Refusal}
use Rattle.rules.specs.declared.refusal.Refusal.TheVariants as R
use Rattle.rules.specs.Listed.{listed}
use Rattle.rules.specs.Answer.{as_numbered, Answer, answer, refused, refuse, refuse_at, numbered, placed, reading, time_of_count, count_at_time, timed_stamp, Numbered, answer_of}
use Rattle.rules.specs.Partitions.{Partitions, partitions}
use Rattle.rules.specs.Segments.{Segments, segments}
use Rattle.rules.specs.Text.{read_text, fields_from}
use Rattle.rules.specs.Message.{text_length, read_message}
use Rattle.rules.specs.Print.{count_print, print_count, print_stamp, length_printed, buffer_after}
use Rattle.rules.specs.Time.{time_of, count_at, steps_back_in}
use Rattle.rules.specs.StampTime.{time_of_stamp, time_of_message}
use Rattle.rules.specs.Computing.{computing}
use Rattle.rules.specs.Examples.{bytes, layout_a, partitions_a, segments_a}

-- a layout without fields; no partitions; no segments
unfoldable pub no_layout : Layout
no_layout = record { n = 0; moduli = []; offsets = []; delimiter = 1 }

unfoldable pub no_partitions : Partitions
no_partitions = partitions [] []

unfoldable pub no_segments : Segments
no_segments = segments [] [] []

-- the text reader's marks and blanks: the fields of a text, each as its digits
unfoldable pub digits_in : String → List (List ℕ)
digits_in s = map (map (λ d. d.value)) (fields_from 0 (bytes s))

-- moduli 100, 10 with another offset in the second field, or another delimiter
unfoldable pub tens : ℕ → ℕ → Layout
tens o d =
    record {
      n = 2;
      moduli = 100 ∷ 10 ∷ 0 ∷ 0 ∷ 0 ∷ 0 ∷ 0 ∷ 0 ∷ 0 ∷ 0 ∷ [];
      offsets = 0 ∷ o ∷ 0 ∷ 0 ∷ 0 ∷ 0 ∷ 0 ∷ 0 ∷ 0 ∷ 0 ∷ [];
      delimiter = d;
    }

-- one field of this modulus and offset
unfoldable pub one_field : ℕ → ℕ → Layout
one_field m o =
    record {
      n = 1;
      moduli = m ∷ 0 ∷ 0 ∷ 0 ∷ 0 ∷ 0 ∷ 0 ∷ 0 ∷ 0 ∷ 0 ∷ [];
      offsets = o ∷ 0 ∷ 0 ∷ 0 ∷ 0 ∷ 0 ∷ 0 ∷ 0 ∷ 0 ∷ 0 ∷ [];
      delimiter = 1;
    }

-- two fields: the first of modulus m, the second of modulus k and offset o
unfoldable pub two_fields : ℕ → ℕ → ℕ → Layout
two_fields m k o =
    record {
      n = 2;
      moduli = m ∷ k ∷ 0 ∷ 0 ∷ 0 ∷ 0 ∷ 0 ∷ 0 ∷ 0 ∷ 0 ∷ [];
      offsets = 0 ∷ o ∷ 0 ∷ 0 ∷ 0 ∷ 0 ∷ 0 ∷ 0 ∷ 0 ∷ 0 ∷ [];
      delimiter = 1;
    }

-- a message of n zeros and a trailer that says L
unfoldable pub message : ℕ → ℕ → List ℕ
message n L = replicate n 48 ++ (0 ∷ L ∷ [])

-- the buffer after the call
unfoldable pub count_buffer : Layout → ℕ → List ℕ → List ℕ
count_buffer l c b = buffer_after (print_count l c (length b)) b

unfoldable pub stamp_buffer : ℕ → List ℕ → List ℕ
stamp_buffer e b = buffer_after (print_stamp layout_a partitions_a e (length b)) b

-- every mark, runs of blanks, a trailing mark, blanks alone
pub fields_edges :
    map digits_in ("1.2" ∷ "1:2" ∷ "1,2" ∷ "1-2" ∷ "1  2" ∷ " 1 : : 3" ∷ "1 .2" ∷ "12." ∷ "  " ∷ [])
    ≡ (((1 ∷ []) ∷ (2 ∷ []) ∷ []) ∷ ((1 ∷ []) ∷ (2 ∷ []) ∷ []) ∷ ((1 ∷ []) ∷ (2 ∷ []) ∷ []) ∷ ((1 ∷ []) ∷ (2 ∷ []) ∷ []) ∷ ((1 ∷ []) ∷ (2 ∷ []) ∷ [])
    ∷ ((1 ∷ []) ∷ [] ∷ (3 ∷ []) ∷ []) ∷ ((1 ∷ []) ∷ (2 ∷ []) ∷ []) ∷ ((1 ∷ 2 ∷ []) ∷ [] ∷ []) ∷ ([] ∷ []) ∷ [])
unfolding computing digits_in bytes
fields_edges = refl

-- whether a text is read
unfoldable pub is_read : Answer Reading → Bool
is_read (answer r) = true
is_read (refused k) = false

-- the bytes below n that may stand after a `1`
unfoldable pub bytes_read : ℕ → List ℕ
bytes_read zero = []
bytes_read (suc n) = bytes_read n ++ cond (is_read (read_text layout_a (49 ∷ n ∷ []))) (n ∷ []) []

-- of all 256 these 15: blank, `,` `-` `.`, the digits, `:`
pub allowed_bytes :
    bytes_read 256
    ≡ (32 ∷ 44 ∷ 45 ∷ 46 ∷ 48 ∷ 49 ∷ 50 ∷ 51 ∷ 52 ∷ 53 ∷ 54 ∷ 55 ∷ 56 ∷ 57 ∷ 58 ∷ [])
unfolding computing layout_a is_read bytes_read
allowed_bytes = refl

-- counted
pub allowed_number : length (bytes_read 256) ≡ 15
unfolding computing layout_a is_read bytes_read
allowed_number = refl

-- a field and the sum at their limits; fields at and below their offset; 96 bytes and 97, and 4 before 5
pub reading_edges :
    (read_text (one_field (10 ^ 15) 1_000) (bytes "1000000000001000") ∷ read_text (one_field (10 ^ 15) 1_000) (bytes "1000000000001001") ∷ read_text (tens 1 1) (bytes "1000000000001000.0") ∷ read_text (tens 1 1) (bytes "1000000000001001.0") ∷ read_text layout_a (bytes "100000000000000.0")
    ∷ read_text layout_a (bytes "100000000000000.1") ∷ read_text (tens 1 1) (bytes "12.") ∷ read_text (tens 1 1) (bytes "12.0") ∷ read_text (tens 1 1) (bytes "12.1")
    ∷ read_text layout_a (replicate 96 48) ∷ read_text layout_a (replicate 97 48) ∷ read_text layout_a (replicate 96 120) ∷ read_text layout_a (replicate 97 120) ∷ [])
    ≡ (answer (reading (10 ^ 15)) ∷ refuse_at 9 0 ∷ refuse_at 8 17 ∷ refuse_at 9 0 ∷ answer (reading (10 ^ 15)) ∷ refuse_at 9 17 ∷ answer (reading 120) ∷ refuse_at 8 3 ∷ answer (reading 120) ∷ answer (reading 0) ∷ refuse 4 ∷ refuse_at 5 0 ∷ refuse 4 ∷ [])
unfolding computing bytes layout_a tens one_field
reading_edges = refl

-- L from 1 to 96 and at most the message length less 2; its high byte counts
pub message_edges :
    map (read_message layout_a partitions_a)
    (message 1 0 ∷ message 1 1 ∷ message 1 2 ∷ message 96 96 ∷ message 97 97 ∷ message 0 0 ∷ (1 ∷ []) ∷ (replicate 97 48 ++ (1 ∷ 0 ∷ [])) ∷ (replicate 300 48 ++ (1 ∷ 0 ∷ []))
    ∷ (bytes "1/5.3" ++ (1 ∷ 5 ∷ [])) ∷ [])
    ≡ (refuse 22 ∷ answer (reading 0) ∷ refuse 23 ∷ answer (reading 0) ∷ refuse 23 ∷ refuse 22 ∷ refuse 21 ∷ refuse 23 ∷ refuse 23 ∷ refuse 23 ∷ [])
unfolding computing bytes layout_a partitions_a message
message_edges = refl

-- 256 times the high byte and the low byte
pub trailer : text_length (1 ∷ 5 ∷ []) ≡ 261
unfolding text_length
trailer = refl

-- bytes of 7 are lent: the print, the rest untouched; a refusal leaves all
pub print_edges :
    (count_buffer (tens 0 1) 123 (replicate 5 7) ∷ count_buffer (tens 0 2) 123 (replicate 5 7) ∷ count_buffer (tens 0 3) 123 (replicate 5 7)
    ∷ count_buffer (tens 0 4) 123 (replicate 5 7) ∷ count_buffer (tens 0 5) 123 (replicate 5 7) ∷ count_buffer (tens 1 1) 129 (replicate 5 7) ∷ count_buffer (tens 1 1) 120 (replicate 5 7)
    ∷ count_buffer (two_fields 100 1 0) 3 (replicate 5 7) ∷ count_buffer (two_fields 101 11 0) 58 (replicate 6 7) ∷ count_buffer layout_a 123 (replicate 4 7) ∷ count_buffer layout_a 123 (replicate 3 7) ∷ count_buffer layout_a 999 (replicate 5 7)
    ∷ count_buffer layout_a 1_000 (replicate 5 7) ∷ [])
    ≡ ((bytes "12.3" ++ (7 ∷ [])) ∷ (bytes "12:3" ++ (7 ∷ [])) ∷ (bytes "12-3" ++ (7 ∷ [])) ∷ (bytes "12,3" ++ (7 ∷ [])) ∷ (bytes "12 3" ++ (7 ∷ []))
    ∷ bytes "12.10" ∷ bytes "12.01" ∷ (bytes "03.0" ++ (7 ∷ [])) ∷ bytes "005.03" ∷ bytes "12.3" ∷ replicate 3 7 ∷ (bytes "99.9" ++ (7 ∷ [])) ∷ replicate 5 7 ∷ [])
unfolding computing count_buffer bytes tens two_fields layout_a
print_edges = refl

-- Request 2: "A field of modulus 10 with offset 1 shows 1 to 10". A modulus of 1 shows its offset alone. The largest shown numbers 9, 10, 99 and 100.
-- Of two fields each has its own width.
pub width_edges :
    (map (count_print (one_field 10 1)) (0 ∷ 1 ∷ 2 ∷ 3 ∷ 4 ∷ 5 ∷ 6 ∷ 7 ∷ 8 ∷ 9 ∷ []) ≡ map bytes ("01" ∷ "02" ∷ "03" ∷ "04" ∷ "05" ∷ "06" ∷ "07" ∷ "08" ∷ "09" ∷ "10" ∷ []))
    × (map (λ o. count_print (one_field 1 o) 0) (0 ∷ 9 ∷ 1_000 ∷ []) ≡ map bytes ("0" ∷ "9" ∷ "1000" ∷ []))
    × ((count_print (one_field 9 1) 0 ∷ count_print (one_field 2 9) 0 ∷ count_print (one_field 90 10) 0 ∷ count_print (one_field 91 10) 0 ∷ []) ≡ map bytes ("1" ∷ "09" ∷ "10" ∷ "010" ∷ []))
    × (map (count_print (two_fields 2 1_000 1)) (0 ∷ 1_999 ∷ []) ≡ map bytes ("0.0001" ∷ "1.1000" ∷ []))
unfolding computing bytes one_field two_fields
width_edges = (refl, refl, refl, refl)

-- table A's partitions 0..500 and 200..900 from their starts to their ends; a buffer as long as the print, and one byte less
pub stamp_edges :
    (stamp_buffer 0 (replicate 7 7) ∷ stamp_buffer 499 (replicate 7 7) ∷ stamp_buffer 500 (replicate 7 7) ∷ stamp_buffer 501 (replicate 7 7) ∷ stamp_buffer 1_200 (replicate 7 7)
    ∷ stamp_buffer 1_201 (replicate 7 7) ∷ stamp_buffer 499 (replicate 6 7) ∷ stamp_buffer 499 (replicate 5 7) ∷ [])
    ≡ ((bytes "1/00.0" ++ (7 ∷ [])) ∷ (bytes "1/49.9" ++ (7 ∷ [])) ∷ (bytes "2/20.0" ++ (7 ∷ [])) ∷ (bytes "2/20.1" ++ (7 ∷ [])) ∷ (bytes "2/90.0" ++ (7 ∷ []))
    ∷ replicate 7 7 ∷ bytes "1/49.9" ∷ replicate 5 7 ∷ [])
unfolding computing stamp_buffer bytes layout_a partitions_a
stamp_edges = refl

-- partition 10 of ten partitions 0..1, unpadded; "the answer is its length"
pub tenth_partition :
    (print_stamp layout_a (partitions (replicate 10 0) (replicate 10 1)) 9 7 ≡ answer (bytes "10/00.0"))
    × (length_printed (print_stamp layout_a (partitions (replicate 10 0) (replicate 10 1)) 9 96) ≡ answer 7)
unfolding computing bytes layout_a
tenth_partition = (refl, refl)

-- 16 comes after 1 and 9, and after 1, 2 and 12; 12 after 1 and 2
pub print_orders :
    ((print_count no_layout 1_000 0 ∷ print_count layout_a 1_000 0 ∷ print_count layout_a 999 0 ∷ []) ≡ (refuse 1 ∷ refuse 9 ∷ refuse 16 ∷ []))
    × ((print_stamp no_layout no_partitions 1_201 0 ∷ print_stamp layout_a no_partitions 1_201 0 ∷ print_stamp layout_a partitions_a 1_201 0 ∷ print_stamp layout_a partitions_a 1_200 0 ∷ [])
    ≡ (refuse 1 ∷ refuse_at 2 0 ∷ refuse 12 ∷ refuse 16 ∷ []))
unfolding computing layout_a partitions_a no_layout no_partitions
print_orders = (refl, refl)

-- the first count, the last of a segment, the first of the next, the total and one more
pub time_edges :
    map (time_of layout_a partitions_a segments_a) (0 ∷ 599 ∷ 600 ∷ 1_200 ∷ 1_201 ∷ [])
    ≡ (answer (time_of_count (negsuc 999)) ∷ answer (time_of_count (pos 498)) ∷ answer (time_of_count (pos 1_000)) ∷ answer (time_of_count (pos 2_800)) ∷ refuse 12 ∷ [])
unfolding computing layout_a partitions_a segments_a
time_edges = refl

-- a tick of 1.0001 ns, and one of 1 ns: rounded up, and exact
pub rounded_edges :
    (time_of layout_a partitions_a (segments (0 ∷ []) (pos 0 ∷ []) (10_001 ∷ [])) 1 ∷ time_of layout_a partitions_a (segments (0 ∷ []) (pos 0 ∷ []) (10_000 ∷ [])) 1 ∷ [])
    ≡ (answer (time_of_count (pos 2)) ∷ answer (time_of_count (pos 1)) ∷ [])
unfolding computing layout_a partitions_a
rounded_edges = refl

-- one segment from the earliest time on; one that reaches the latest time at the total
unfoldable pub early : Segments
early = segments (0 ∷ []) (negsuc (4 * 10 ^ 18 - 1) ∷ []) (10_000 ∷ [])

unfoldable pub late : Segments
late = segments (0 ∷ []) (pos (4 * 10 ^ 18 - 3_000) ∷ []) (25_000 ∷ [])

-- T one below -4×10^18 and at it, at 4×10^18 and one above, where the line would still answer 1,200; within the range a time before the
-- first segment is refused 13, and one whose answer is above the total 14
pub range_edges :
    (count_at layout_a partitions_a early (negsuc (4 * 10 ^ 18)) ∷ count_at layout_a partitions_a early (negsuc (4 * 10 ^ 18 - 1)) ∷ count_at layout_a partitions_a segments_a (negsuc (4 * 10 ^ 18 - 1))
    ∷ count_at layout_a partitions_a early (pos (4 * 10 ^ 18)) ∷ count_at layout_a partitions_a late (pos (4 * 10 ^ 18)) ∷ count_at layout_a partitions_a late (pos (4 * 10 ^ 18 + 1)) ∷ [])
    ≡ (refuse 14 ∷ answer (count_at_time 0) ∷ refuse 13 ∷ refuse 14 ∷ answer (count_at_time 1_200) ∷ refuse 14 ∷ [])
unfolding computing layout_a partitions_a segments_a early late
range_edges = refl

-- the first segment's time and one before; a line that just reaches the next segment's count, and the next one's time; the total and one more
pub count_edges :
    map (count_at layout_a partitions_a segments_a)
    (negsuc 1_000 ∷ negsuc 999 ∷ negsuc 997 ∷ negsuc 996 ∷ pos 497 ∷ pos 498 ∷ pos 500 ∷ pos 999 ∷ pos 1_000 ∷ pos 1_003 ∷ pos 2_802 ∷ pos 2_803 ∷ [])
    ≡ (refuse 13 ∷ answer (count_at_time 0) ∷ answer (count_at_time 0) ∷ answer (count_at_time 1) ∷ answer (count_at_time 598) ∷ answer (count_at_time 599) ∷ answer (count_at_time 599)
    ∷ answer (count_at_time 599) ∷ answer (count_at_time 600) ∷ answer (count_at_time 601) ∷ answer (count_at_time 1_200) ∷ refuse 14 ∷ [])
unfolding computing layout_a partitions_a segments_a
count_edges = refl

-- 12 and 14 come after 1, 2 and 3, and these in this order
pub time_orders :
    ((time_of no_layout no_partitions no_segments 1_201 ∷ time_of layout_a no_partitions no_segments 1_201 ∷ time_of layout_a partitions_a no_segments 1_201 ∷ time_of layout_a partitions_a segments_a 1_201 ∷ [])
    ≡ (refuse 1 ∷ refuse_at 2 0 ∷ refuse_at 3 0 ∷ refuse 12 ∷ []))
    × ((count_at no_layout no_partitions no_segments (pos (4 * 10 ^ 18 + 1)) ∷ count_at layout_a no_partitions no_segments (pos (4 * 10 ^ 18 + 1)) ∷ count_at layout_a partitions_a no_segments (pos (4 * 10 ^ 18 + 1))
    ∷ count_at layout_a partitions_a segments_a (pos (4 * 10 ^ 18 + 1)) ∷ [])
    ≡ (refuse 1 ∷ refuse_at 2 0 ∷ refuse_at 3 0 ∷ refuse 14 ∷ []))
    × ((steps_back_in no_layout no_partitions no_segments ∷ steps_back_in layout_a no_partitions no_segments ∷ steps_back_in layout_a partitions_a no_segments ∷ []) ≡ (refuse 1 ∷ refuse_at 2 0 ∷ refuse_at 3 0 ∷ []))
unfolding computing layout_a partitions_a segments_a no_layout no_partitions no_segments
time_orders = (refl, refl, refl)

-- a stamp with its time; what reading refuses comes before a bad segment table, and that before 13
pub stamp_time_edges :
    (time_of_stamp layout_a partitions_a segments_a (bytes "1/0.1") ∷ time_of_stamp layout_a partitions_a segments_a (bytes "50.1") ∷ time_of_stamp layout_a partitions_a segments_a (bytes "1/50.1")
    ∷ time_of_stamp layout_a partitions_a no_segments (bytes "1/50.1") ∷ time_of_stamp layout_a partitions_a no_segments (bytes "1/0.1")
    ∷ time_of_stamp layout_a partitions_a (segments (1 ∷ []) (pos 0 ∷ []) (10_000 ∷ [])) (bytes "1/0.0")
    ∷ time_of_message layout_a partitions_a segments_a (7 ∷ 208 ∷ bytes "1/5.3" ++ (0 ∷ 5 ∷ [])) ∷ time_of_message layout_a partitions_a no_segments (7 ∷ 208 ∷ bytes "1/5.3" ++ (0 ∷ 8 ∷ []))
    ∷ time_of_message layout_a partitions_a no_segments (7 ∷ 208 ∷ bytes "1/5.3" ++ (0 ∷ 5 ∷ [])) ∷ [])
    ≡ (answer (timed_stamp 1 (negsuc 996)) ∷ answer (timed_stamp 801 (pos 1_603)) ∷ refuse 11 ∷ refuse 11 ∷ refuse_at 3 0 ∷ refuse 13
    ∷ answer (timed_stamp 53 (negsuc 866)) ∷ refuse 23 ∷ refuse_at 3 0 ∷ [])
unfolding computing bytes layout_a partitions_a segments_a no_segments
stamp_time_edges = refl

-- What the numbers of a refusal and of a value are.
pub numbers_mean :
    (((numbered 14).number ∷ (numbered 15).number ∷ (reading 5).count ∷ (reading 6).count ∷ (count_at_time 5).count ∷ (count_at_time 6).count ∷ (timed_stamp 5 (pos 7)).count ∷ (timed_stamp 6 (negsuc 8)).count ∷ [])
    ≡ (14 ∷ 15 ∷ 5 ∷ 6 ∷ 5 ∷ 6 ∷ 5 ∷ 6 ∷ []))
    × (((time_of_count (pos 5)).time ∷ (time_of_count (negsuc 6)).time ∷ (timed_stamp 5 (pos 7)).time ∷ (timed_stamp 6 (negsuc 8)).time ∷ []) ≡ (pos 5 ∷ negsuc 6 ∷ pos 7 ∷ negsuc 8 ∷ []))
numbers_mean = (refl, refl)

-- a place, or none
pub places_mean : (map (λ (r : Numbered). r.place) (numbered 5 ∷ placed 5 0 ∷ placed 5 3 ∷ []) ≡ (None ∷ Some 0 ∷ Some 3 ∷ [])) × (((placed 5 3).number ∷ (placed 2 0).number ∷ []) ≡ (5 ∷ 2 ∷ []))
places_mean = (refl, refl)

-- A refusal that is none of the table, with a place and without one.
abbrev pub other_at : (k i : ℕ) → listed k (Some i) ≡ false → Refusal
other_at k i h = R.Unlisted (record { number = k; place = Some i; unlisted = h })

abbrev pub other : (k : ℕ) → listed k None ≡ false → Refusal
other k h = R.Unlisted (record { number = k; place = None; unlisted = h })

-- What each case of a call's result means: its own value, or the refusal of its own number and place, whichever that is.
pub answers_mean : (j k i : ℕ) → (alone : listed j None ≡ false) → (at : listed k (Some i) ≡ false) →
    (map answer_of (Ok (reading 5) ∷ Ok (reading 6) ∷ Err R.TextTooLong ∷ Err (R.TooManyFields 2) ∷ Err (other j alone) ∷ Err (other_at k i at) ∷ [])
    ≡ (answer (reading 5) ∷ answer (reading 6) ∷ refuse 4 ∷ refuse_at 7 2 ∷ refuse j ∷ refuse_at k i ∷ []))
    × (map answer_of (Ok (time_of_count (pos 5)) ∷ Ok (time_of_count (negsuc 6)) ∷ Err R.TextTooLong ∷ Err R.BeyondTotal ∷ Err (R.Segments 2) ∷ Err (other j alone) ∷ Err (other_at k i at) ∷ [])
    ≡ (answer (time_of_count (pos 5)) ∷ answer (time_of_count (negsuc 6)) ∷ refuse 4 ∷ refuse 12 ∷ refuse_at 3 2 ∷ refuse j ∷ refuse_at k i ∷ []))
    × (map answer_of (Ok (count_at_time 5) ∷ Ok (count_at_time 6) ∷ Err R.BeforeFirstSegment ∷ Err (R.Partitions 2) ∷ Err (other j alone) ∷ Err (other_at k i at) ∷ [])
    ≡ (answer (count_at_time 5) ∷ answer (count_at_time 6) ∷ refuse 13 ∷ refuse_at 2 2 ∷ refuse j ∷ refuse_at k i ∷ []))
    × (map answer_of (Ok (timed_stamp 5 (pos 7)) ∷ Ok (timed_stamp 6 (negsuc 8)) ∷ Err R.OutsidePartition ∷ Err (R.TooLarge 2) ∷ Err (other j alone) ∷ Err (other_at k i at) ∷ [])
    ≡ (answer (timed_stamp 5 (pos 7)) ∷ answer (timed_stamp 6 (negsuc 8)) ∷ refuse 11 ∷ refuse_at 9 2 ∷ refuse j ∷ refuse_at k i ∷ []))
    × (map (answer_of {A = ℕ}) (Ok 5 ∷ Ok 6 ∷ Err R.BeyondTotal ∷ Err R.CountTooLarge ∷ Err (R.ByteNotAllowed 2) ∷ Err (other j alone) ∷ Err (other_at k i at) ∷ [])
    ≡ (answer 5 ∷ answer 6 ∷ refuse 12 ∷ refuse 9 ∷ refuse_at 5 2 ∷ refuse j ∷ refuse_at k i ∷ []))
    × (map answer_of (Ok true ∷ Ok false ∷ Err R.Layout ∷ Err (R.Segments 2) ∷ Err (R.FieldBelowOffset 2) ∷ Err (other j alone) ∷ Err (other_at k i at) ∷ [])
    ≡ (answer true ∷ answer false ∷ refuse 1 ∷ refuse_at 3 2 ∷ refuse_at 8 2 ∷ refuse j ∷ refuse_at k i ∷ []))
    × (map answer_of (Ok nan ∷ Ok (inf true) ∷ Err R.TimeOutOfRange ∷ Err R.DoubleForm ∷ Err (other j alone) ∷ Err (other_at k i at) ∷ [])
    ≡ (answer nan ∷ answer (inf true) ∷ refuse 14 ∷ refuse 15 ∷ refuse j ∷ refuse_at k i ∷ []))
answers_mean j k i alone at = (refl, refl, refl, refl, refl, refl, refl)

-- Every refusal of the table, by its number and with its own place.
pub refusals_mean : (i : ℕ) →
    map as_numbered
    (R.Layout ∷ R.Partitions i ∷ R.Segments i ∷ R.TextTooLong ∷ R.ByteNotAllowed i ∷ R.FirstFieldMissing ∷ R.TooManyFields i ∷ R.FieldBelowOffset i ∷ R.TooLarge i ∷ R.CountTooLarge
    ∷ R.NoSuchPartition ∷ R.OutsidePartition ∷ R.BeyondTotal ∷ R.BeforeFirstSegment ∷ R.TimeOutOfRange ∷ R.DoubleForm ∷ R.BufferTooShort ∷ R.FirstLine ∷ R.Assignment ∷ R.NotExact ∷ R.NoTrailer
    ∷ R.NoText ∷ R.WrongDistance ∷ R.TooManyMicroseconds ∷ R.PacketLength ∷ R.PacketForm ∷ R.NeverReset ∷ [])
    ≡ (numbered 1 ∷ placed 2 i ∷ placed 3 i ∷ numbered 4 ∷ placed 5 i ∷ numbered 6 ∷ placed 7 i ∷ placed 8 i ∷ placed 9 i ∷ numbered 9
    ∷ numbered 10 ∷ numbered 11 ∷ numbered 12 ∷ numbered 13 ∷ numbered 14 ∷ numbered 15 ∷ numbered 16 ∷ numbered 18 ∷ numbered 19 ∷ numbered 20 ∷ numbered 21
    ∷ numbered 22 ∷ numbered 23 ∷ numbered 24 ∷ numbered 25 ∷ numbered 26 ∷ numbered 27 ∷ [])
refusals_mean i = refl
