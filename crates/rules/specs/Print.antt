-- "Printing": a count to fields, to digits, to bytes at the front of a lent buffer.
use Rattle.std.specs.Prelude.{ℕ, zero, suc, ◌+◌, ◌-◌, ◌/◌, ◌%◌, max, true, false, List, [], ◌∷◌, ◌++◌, leb, ltb, length, get_or, drop}
use Rattle.std.proofs.Math.Option.{Option, none, some}
use Rattle.base.specs.Scans.{product, first_below}
use Rattle.rules.specs.declared.Layout.{Layout}
use Rattle.rules.specs.Layout.{layout_ok, moduli_of, offsets_of, product_of}
use Rattle.rules.specs.Partitions.{Partitions, partitions_in, start_of, lengths_before, total_of}
use Rattle.rules.specs.Accepted.{accepted_stamps}
use Rattle.rules.specs.Answer.{Answer, answer, refused, unless}

-- how many decimal digits x has, 0 having one; at most `most` and one more are counted
unfoldable pub digits_up_to : ℕ → ℕ → ℕ
digits_up_to zero x = 1
digits_up_to (suc most) x = elim (ltb x 10) [ true ↦ 1 | false ↦ digits_up_to most (x / 10) + 1 ]

unfoldable pub digit_count : ℕ → ℕ
digit_count x = digits_up_to x x

-- the last w decimal digits of x, as bytes
unfoldable pub last_digits : ℕ → ℕ → List ℕ
last_digits zero x = []
last_digits (suc w) x = last_digits w (x / 10) ++ ((48 + x % 10) ∷ [])

-- x in at least w digits, zero-padded
unfoldable pub padded : ℕ → ℕ → List ℕ
padded w x = last_digits (max w (digit_count x)) x

-- Request 2, of a field of modulus m with offset o: "The width must be that of the largest shown number, modulus plus offset less one."
unfoldable pub field_width : ℕ → ℕ → ℕ
field_width m o = digit_count (m + o - 1)

-- "each field has its offset added, and is zero-padded"
unfoldable pub field_print : ℕ → ℕ → ℕ → List ℕ
field_print v m o = padded (field_width m o) (v + o)

-- "1 `.`, 2 `:`, 3 `-`, 4 `,`, 5 blank"
unfoldable pub delimiter_byte : ℕ → ℕ
delimiter_byte d = get_or (46 ∷ 58 ∷ 45 ∷ 44 ∷ 32 ∷ []) (d - 1) 0

-- "A count below P is split into fields by the moduli", the first field the count over the product of the later moduli.
-- "Fields are joined by the delimiter."
unfoldable pub fields_print : ℕ → ℕ → List ℕ → List ℕ → List ℕ
fields_print d c [] os = []
fields_print d c (m ∷ ms) [] = []
fields_print d c (m ∷ []) (o ∷ os) = field_print c m o
fields_print d c (m ∷ k ∷ ms) (o ∷ os) =
    field_print (c / product (k ∷ ms)) m o ++ (d ∷ fields_print d (c % product (k ∷ ms)) (k ∷ ms) os)

unfoldable pub count_print : Layout → ℕ → List ℕ
count_print l c = fields_print (delimiter_byte l.delimiter) c (moduli_of l) (offsets_of l)

-- "The encoded count e belongs to the first partition whose running sum of lengths is above e; the total itself belongs to the last."
unfoldable pub found_or_last : Partitions → Option ℕ → ℕ
found_or_last p (some i) = i
found_or_last p none = partitions_in p - 1

unfoldable pub partition_of : Partitions → ℕ → ℕ
partition_of p e = found_or_last p (first_below (λ i. ltb e (lengths_before p (i + 1))) (partitions_in p))

-- the clock's count in partition i for the encoded count e
unfoldable pub decoded_in : Partitions → ℕ → ℕ → ℕ
decoded_in p e i = start_of p i + (e - lengths_before p i)

-- "A stamp has the partition number, unpadded, and `/` in front." Partitions are numbered from 1.
unfoldable pub stamp_print : Layout → Partitions → ℕ → List ℕ
stamp_print l p e = padded 1 (partition_of p e + 1) ++ (47 ∷ count_print l (decoded_in p e (partition_of p e)))

-- "16: lent buffer shorter than the print", for a buffer of that many bytes
unfoldable pub fitting : ℕ → List ℕ → Answer (List ℕ)
fitting room s = unless 16 (leb (length s) room) (answer s)

-- "9: a count to print at or above P"
unfoldable pub print_count : Layout → ℕ → ℕ → Answer (List ℕ)
print_count l c room = unless 1 (layout_ok l) (unless 9 (ltb c (product_of l)) (fitting room (count_print l c)))

-- "12: encoded count above the total". Never 9: the count of an encoded count up to the total is below P (`StampCountBelowP` of roundtrip).
unfoldable pub print_stamp : Layout → Partitions → ℕ → ℕ → Answer (List ℕ)
print_stamp l p e room = accepted_stamps l p (unless 12 (leb e (total_of p)) (fitting room (stamp_print l p e)))

-- "the answer is its length"
unfoldable pub length_printed : Answer (List ℕ) → Answer ℕ
length_printed (answer s) = answer (length s)
length_printed (refused k) = refused k

-- "The print goes to the front of the lent buffer, the rest is untouched". A refusal leaves it.
unfoldable pub buffer_after : Answer (List ℕ) → List ℕ → List ℕ
buffer_after (answer s) buffer = s ++ drop (length s) buffer
buffer_after (refused k) buffer = buffer
