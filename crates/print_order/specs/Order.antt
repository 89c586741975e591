-- Request 2: "Stamps of different length break our sorting." Under one layout all prints of counts have one length, and in byte order
-- they stand as their counts do. So do the stamps of one partition, and of partitions whose numbers are equally long.
use Rattle.std.specs.Prelude.{ℕ, ◌+◌, ◌-◌, ◌≤◌, ◌<◌, ◌≡◌, Bool, true, false, ◌&&◌, ◌||◌, List, [], ◌∷◌, ltb, eqb, length, get_or, take}
use Rattle.base.specs.Scans.{sum_below}
use Rattle.rules.specs.Answer.{answer}
use Rattle.rules.specs.declared.Layout.{Layout}
use Rattle.rules.specs.Layout.{moduli_of, offsets_of, product_of, layout_ok}
use Rattle.rules.specs.Partitions.{Partitions, total_of, partitions_ok}
use Rattle.rules.specs.Print.{digit_count, field_width, count_print, partition_of, stamp_print, print_count, print_stamp, length_printed, buffer_after}
use Rattle.roundtrip.specs.RoundTrip.{TenSlots}

-- in byte order s stands before t: the first byte that differs decides, and a text stands before one that goes on after it
unfoldable pub sorts_before : List ℕ → List ℕ → Bool
sorts_before s [] = false
sorts_before [] (b ∷ t) = true
sorts_before (a ∷ s) (b ∷ t) = ltb a b || (eqb a b && sorts_before s t)

-- the shorter text first, and texts of one length in byte order
unfoldable pub shorter_or_before : List ℕ → List ℕ → Bool
shorter_or_before s t = ltb (length s) (length t) || (eqb (length s) (length t) && sorts_before s t)

-- how many bytes the fields print to: the width of each, and a delimiter between two
unfoldable pub fields_length : List ℕ → List ℕ → ℕ
fields_length ms os = sum_below (λ i. field_width (get_or ms i 0) (get_or os i 0)) (length ms) + (length ms - 1)

-- the length of every print of a count
unfoldable pub count_length : Layout → ℕ
count_length l = fields_length (moduli_of l) (offsets_of l)

-- the length of every stamp of partition i, the first being partition 0: its number is not padded
unfoldable pub stamp_length : Layout → ℕ → ℕ
stamp_length l i = digit_count (i + 1) + 1 + count_length l

-- all prints of counts have one length
abbrev pub CountsOneLength : Type 0
CountsOneLength = (l : Layout) → TenSlots l → layout_ok l ≡ true → (c : ℕ) → c < product_of l → length (count_print l c) ≡ count_length l

-- of two counts below P the print of the smaller stands first
abbrev pub CountsInOrder : Type 0
CountsInOrder =
    (l : Layout) → TenSlots l → layout_ok l ≡ true → (c d : ℕ) → c < product_of l → d < product_of l
    → sorts_before (count_print l c) (count_print l d) ≡ ltb c d

-- all stamps of one partition have one length
abbrev pub StampsOneLength : Type 0
StampsOneLength =
    (l : Layout) (p : Partitions) → TenSlots l → layout_ok l ≡ true → partitions_ok (product_of l) p ≡ true → (e : ℕ) → e ≤ total_of p
    → length (stamp_print l p e) ≡ stamp_length l (partition_of p e)

-- Where the numbers of two partitions have equally many digits, so always within one partition, the print of the smaller encoded count stands first.
abbrev pub StampsInOrder : Type 0
StampsInOrder =
    (l : Layout) (p : Partitions) → TenSlots l → layout_ok l ≡ true → partitions_ok (product_of l) p ≡ true → (e f : ℕ) → e ≤ total_of p → f ≤ total_of p
    → digit_count (partition_of p e + 1) ≡ digit_count (partition_of p f + 1) → sorts_before (stamp_print l p e) (stamp_print l p f) ≡ ltb e f

-- Any stamps: the shorter one has the smaller encoded count, and of two equally long ones the one that stands before the other.
abbrev pub StampsByLength : Type 0
StampsByLength =
    (l : Layout) (p : Partitions) → TenSlots l → layout_ok l ≡ true → partitions_ok (product_of l) p ≡ true → (e f : ℕ) → e ≤ total_of p → f ≤ total_of p
    → shorter_or_before (stamp_print l p e) (stamp_print l p f) ≡ ltb e f

-- Any stamps, by the partition's number and then as text, as `LC_ALL=C sort -t / -k 1,1n -k 2` has them.
abbrev pub StampsByNumber : Type 0
StampsByNumber =
    (l : Layout) (p : Partitions) → TenSlots l → layout_ok l ≡ true → partitions_ok (product_of l) p ≡ true → (e f : ℕ) → e ≤ total_of p → f ≤ total_of p
    → (ltb (partition_of p e) (partition_of p f) || (eqb (partition_of p e) (partition_of p f) && sorts_before (stamp_print l p e) (stamp_print l p f))) ≡ ltb e f

-- The same of the calls: what two prints under one layout leave at the front of their buffers, where both answer.
abbrev pub CountCallsInOrder : Type 0
CountCallsInOrder =
    (l : Layout) → TenSlots l → (c d : ℕ) (b b' : List ℕ) (n n' : ℕ)
    → length_printed (print_count l c (length b)) ≡ answer n → length_printed (print_count l d (length b')) ≡ answer n'
    → (n ≡ n') × (sorts_before (take n (buffer_after (print_count l c (length b)) b)) (take n' (buffer_after (print_count l d (length b')) b')) ≡ ltb c d)

abbrev pub StampCallsInOrder : Type 0
StampCallsInOrder =
    (l : Layout) (p : Partitions) → TenSlots l → (e f : ℕ) (b b' : List ℕ) (n n' : ℕ)
    → length_printed (print_stamp l p e (length b)) ≡ answer n → length_printed (print_stamp l p f (length b')) ≡ answer n'
    → shorter_or_before (take n (buffer_after (print_stamp l p e (length b)) b)) (take n' (buffer_after (print_stamp l p f (length b')) b')) ≡ ltb e f
