-- C calls by hand, as one table with one statement: the cases that document 01 marks *, from bytes; each sentence of the request; and each
-- byte of a number.
use Rattle.std.specs.Prelude.{ℕ, ◌+◌, ◌-◌, ◌^◌, ◌≡◌, refl, List, [], ◌∷◌, ◌++◌, map, ℤ, pos, negsuc, length, replicate}
use Prim.Native.String.{String}
use Rattle.rules.specs.Text.{read_text}
use Rattle.rules.specs.Stamp.{read_stamp}
use Rattle.rules.specs.Message.{read_message}
use Rattle.rules.specs.Print.{print_count, print_stamp, length_printed, buffer_after}
use Rattle.rules.specs.Time.{time_of, count_at}
use Rattle.rules.specs.Computing.{computing}
use Rattle.rules.specs.Examples.{bytes}
use Rattle.c_rules.specs.Numbers.{little, numbers_in, eights, numbers, signed_of, unsigned_of, times, bytes_of, time_bytes}
use Rattle.c_rules.specs.Tables.{slots, fields_given, code_given, layout_from, partitions_from, segments_from}
use Rattle.c_rules.specs.Calls.{returned, count_read, count_given, time_written, zero_given}

-- the eight bytes of a number below 256, and of one below 65,536: low byte, high byte
one : ℕ → List ℕ
one a = a ∷ 0 ∷ 0 ∷ 0 ∷ 0 ∷ 0 ∷ 0 ∷ 0 ∷ []

two : ℕ → ℕ → List ℕ
two a b = a ∷ b ∷ 0 ∷ 0 ∷ 0 ∷ 0 ∷ 0 ∷ 0 ∷ []

-- and of one from -65,536 to -1
minus : ℕ → ℕ → List ℕ
minus a b = a ∷ b ∷ 255 ∷ 255 ∷ 255 ∷ 255 ∷ 255 ∷ 255 ∷ []

-- table A: moduli 100, 10; offsets 0, 0; partitions 0..500, 200..900; segments (0, -1000, 25,000), (600, 1000, 30,000)
moduli_a : List ℕ
moduli_a = one 100 ++ one 10

offsets_a : List ℕ
offsets_a = one 0 ++ one 0

starts_a : List ℕ
starts_a = one 0 ++ one 200

ends_a : List ℕ
ends_a = two 244 1 ++ two 132 3

counts_a : List ℕ
counts_a = one 0 ++ two 88 2

times_a : List ℕ
times_a = minus 24 252 ++ two 232 3

rates_a : List ℕ
rates_a = two 168 97 ++ two 48 117

-- what came back, and what a lent buffer held afterwards
pub record Outcome : Type 0 where
  pub back : ℤ
  pub left : List ℕ

pub record Case : Type 0 where
  pub outcome : Outcome
  pub expected : Outcome

gives : ℤ → List ℕ → Outcome
gives z s = record { back = z; left = s }

refuses : ℕ → List ℕ → Outcome
refuses k s = gives (negsuc (k - 1)) s

case : Outcome → Outcome → Case
case o e = record { outcome = o; expected = e }

text_under : ℕ → ℕ → List ℕ → List ℕ → String → Outcome
text_under n d moduli offsets s = gives (returned (count_read (read_text (layout_from n d moduli offsets) (bytes s)))) []

stamp_under : ℕ → ℕ → List ℕ → List ℕ → List ℕ → List ℕ → List ℕ → Outcome
stamp_under n d moduli offsets starts ends s = gives (returned (count_read (read_stamp (layout_from n d moduli offsets) (partitions_from starts ends) s))) []

stamp_a : String → Outcome
stamp_a s = stamp_under 2 1 moduli_a offsets_a starts_a ends_a (bytes s)

message_under : ℕ → List ℕ → List ℕ → List ℕ → Outcome
message_under n moduli starts m = gives (returned (count_read (read_message (layout_from n 1 moduli offsets_a) (partitions_from starts ends_a) m))) []

print_a : ℕ → List ℕ → Outcome
print_a e b =
    let a = print_stamp (layout_from 2 1 moduli_a offsets_a) (partitions_from starts_a ends_a) e (length b) in
    gives (returned (length_printed a)) (buffer_after a b)

count_print_a : ℕ → List ℕ → Outcome
count_print_a c b =
    let a = print_count (layout_from 2 1 moduli_a offsets_a) c (length b) in
    gives (returned (length_printed a)) (buffer_after a b)

time_under : List ℕ → List ℕ → ℕ → List ℕ → Outcome
time_under starts counts e b =
    let a = time_written (time_of (layout_from 2 1 moduli_a offsets_a) (partitions_from starts ends_a) (segments_from counts times_a rates_a) e) (length b) in
    gives (returned (zero_given a)) (buffer_after a b)

count_at_a : ℤ → Outcome
count_at_a t = gives (returned (count_given (count_at (layout_from 2 1 moduli_a offsets_a) (partitions_from starts_a ends_a) (segments_from counts_a times_a rates_a) t))) []

-- bytes of 77, in hexadecimal, as the reading of the request has them
sevens : ℕ → List ℕ
sevens k = replicate k 119

pub call_cases : List Case
call_cases =
    -- the starred cases
    case (text_under 2 1 moduli_a offsets_a "12.3") (gives (pos 123) [])
    ∷ case (text_under 2 1 moduli_a offsets_a "5.13") (gives (pos 63) [])
    ∷ case (text_under 2 1 moduli_a offsets_a ".5") (refuses 6 [])
    ∷ case (text_under 2 1 moduli_a offsets_a "12..") (refuses 7 [])
    ∷ case (stamp_a "1/50.0") (gives (pos 500) [])
    ∷ case (stamp_a "1/50.1") (refuses 11 [])
    ∷ case (stamp_a "50.1") (gives (pos 801) [])
    ∷ case (print_a 500 (sevens 8)) (gives (pos 6) (bytes "2/20.0" ++ sevens 2))
    ∷ case (print_a 1_200 (sevens 6)) (gives (pos 6) (bytes "2/90.0"))
    ∷ case (time_under starts_a counts_a 1 (sevens 8)) (gives (pos 0) (minus 27 252))
    ∷ case (count_at_a (negsuc 996)) (gives (pos 1) [])
    ∷ case (count_at_a (pos 700)) (gives (pos 599) [])
    ∷ case (count_at_a (pos 2_803)) (refuses 14 [])
    ∷ case (text_under 3 2 ((0 ∷ 0 ∷ 1 ∷ 0 ∷ 0 ∷ 0 ∷ 0 ∷ 0 ∷ []) ++ one 60 ++ two 32 3) (one 0 ++ one 0 ++ one 1) "20538:39:768") (gives (pos 985_855_967) [])
    -- a count below P, and what is too short for it
    ∷ case (count_print_a 123 (sevens 5)) (gives (pos 4) (bytes "12.3" ++ sevens 1))
    ∷ case (count_print_a 123 (sevens 3)) (refuses 16 (sevens 3))
    ∷ case (count_print_a 1_000 (sevens 3)) (refuses 9 (sevens 3))
    -- "an 8-byte buffer (16 if it is shorter)": last, and of a longer one no byte more
    ∷ case (time_under starts_a counts_a 1 (sevens 9)) (gives (pos 0) (minus 27 252 ++ sevens 1))
    ∷ case (time_under starts_a counts_a 1 (sevens 7)) (refuses 16 (sevens 7))
    ∷ case (time_under starts_a counts_a 1 []) (refuses 16 [])
    ∷ case (time_under starts_a (one 1 ++ two 88 2) 0 (sevens 7)) (refuses 13 (sevens 7))
    ∷ case (time_under starts_a counts_a 1_201 []) (refuses 12 [])
    -- "A slice not in eights": of 15 bytes, and of 17 with all numbers there; at its table's turn
    ∷ case (stamp_under 2 1 moduli_a offsets_a (one 0 ++ replicate 7 0) ends_a []) (refuses 2 [])
    ∷ case (stamp_under 0 1 moduli_a offsets_a (one 0 ++ replicate 7 0) ends_a []) (refuses 1 [])
    ∷ case (text_under 2 1 (moduli_a ++ (0 ∷ [])) offsets_a "x") (refuses 1 [])
    ∷ case (text_under 2 1 moduli_a (offsets_a ++ (0 ∷ [])) "x") (refuses 1 [])
    ∷ case (time_under (starts_a ++ (0 ∷ [])) (counts_a ++ (0 ∷ [])) 1 []) (refuses 2 [])
    ∷ case (time_under starts_a (counts_a ++ (0 ∷ [])) 1_201 []) (refuses 3 [])
    -- a message's own refusals come before any slice
    ∷ case (message_under 0 [] (0 ∷ []) []) (refuses 21 [])
    ∷ case (message_under 0 [] (0 ∷ []) (0 ∷ 0 ∷ [])) (refuses 22 [])
    ∷ case (message_under 0 [] (0 ∷ []) (0 ∷ 8 ∷ [])) (refuses 23 [])
    ∷ case (message_under 2 moduli_a starts_a (7 ∷ 208 ∷ bytes "1/5.3" ++ (0 ∷ 5 ∷ []))) (gives (pos 53) [])
    -- "a modulus or offset list under n", however large n is; a longer list is good
    ∷ case (text_under 3 1 moduli_a (offsets_a ++ one 0) "12.3") (refuses 1 [])
    ∷ case (text_under 3 1 (moduli_a ++ one 1) offsets_a "12.3") (refuses 1 [])
    ∷ case (text_under (2 ^ 61) 1 moduli_a offsets_a "12.3") (refuses 1 [])
    ∷ case (text_under (2 ^ 61 + 2) 1 moduli_a offsets_a "12.3") (refuses 1 [])
    ∷ case (text_under 2 1 (moduli_a ++ replicate 72 0) (offsets_a ++ replicate 80 255) "12.3") (gives (pos 123) [])
    ∷ case (text_under 11 1 (moduli_a ++ one 1 ++ one 1 ++ one 1 ++ one 1 ++ one 1 ++ one 1 ++ one 1 ++ one 1 ++ one 1) (offsets_a ++ replicate 72 0) "12.3") (refuses 1 [])
    ∷ case (text_under 258 1 (moduli_a ++ replicate 2_048 0) (offsets_a ++ replicate 2_048 0) "12.3") (refuses 1 [])
    ∷ case (text_under 0 1 [] [] "12.3") (refuses 1 [])
    -- delimiters are numbers of 64 bits
    ∷ case (text_under 2 5 moduli_a offsets_a "12.3") (gives (pos 123) [])
    ∷ case (text_under 2 6 moduli_a offsets_a "12.3") (refuses 1 [])
    ∷ case (text_under 2 0 moduli_a offsets_a "12.3") (refuses 1 [])
    ∷ case (text_under 2 257 moduli_a offsets_a "12.3") (refuses 1 [])
    ∷ []

pub calls_by_hand : map (λ c. c.outcome) call_cases ≡ map (λ c. c.expected) call_cases
unfolding computing bytes one two minus moduli_a offsets_a starts_a ends_a counts_a times_a rates_a gives refuses case text_under stamp_under stamp_a message_under print_a count_print_a time_under count_at_a sevens call_cases little numbers_in eights numbers signed_of unsigned_of times bytes_of time_bytes slots fields_given code_given returned count_read count_given time_written zero_given
calls_by_hand = refl

-- each byte of a number has its weight, and the highest bit of a time is its sign
pub bytes_by_hand :
    (numbers (1 ∷ 2 ∷ 3 ∷ 4 ∷ 5 ∷ 6 ∷ 7 ∷ 8 ∷ []) ≡ 578_437_695_752_307_201 ∷ [])
    × (times (255 ∷ 255 ∷ 255 ∷ 255 ∷ 255 ∷ 255 ∷ 255 ∷ 127 ∷ 0 ∷ 0 ∷ 0 ∷ 0 ∷ 0 ∷ 0 ∷ 0 ∷ 128 ∷ 255 ∷ 255 ∷ 255 ∷ 255 ∷ 255 ∷ 255 ∷ 255 ∷ 255 ∷ []) ≡ pos (2 ^ 63 - 1) ∷ negsuc (2 ^ 63 - 1) ∷ negsuc 0 ∷ [])
    × (time_bytes (negsuc (2 ^ 63 - 1)) ≡ 0 ∷ 0 ∷ 0 ∷ 0 ∷ 0 ∷ 0 ∷ 0 ∷ 128 ∷ [])
    × (time_bytes (pos 578_437_695_752_307_201) ≡ 1 ∷ 2 ∷ 3 ∷ 4 ∷ 5 ∷ 6 ∷ 7 ∷ 8 ∷ [])
    × (numbers (1 ∷ 2 ∷ 3 ∷ 4 ∷ 5 ∷ 6 ∷ 7 ∷ []) ≡ [])
unfolding little numbers_in eights numbers signed_of unsigned_of times bytes_of time_bytes
bytes_by_hand = (refl, refl, refl, refl, refl)
