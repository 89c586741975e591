-- "A stamp may have a partition in front, before the first `/`" (the paper's term: the front part).
use Rattle.std.specs.Prelude.{ℕ, ◌+◌, ◌-◌, Bool, true, false, ◌&&◌, ◌||◌, cond, List, [], ◌∷◌, leb, eqb, length, get_or, take}
use Rattle.std.proofs.Math.Option.{Option, none, some}
use Rattle.base.specs.Scans.{first_below}
use Rattle.rules.specs.Limits.{longest_text}
use Rattle.rules.specs.declared.Layout.{Layout}
use Rattle.rules.specs.declared.Reading.{Reading}
use Rattle.rules.specs.Layout.{moduli_of, offsets_of}
use Rattle.rules.specs.Partitions.{Partitions, partitions_in, start_of, end_of, lengths_before}
use Rattle.rules.specs.Accepted.{accepted_stamps}
use Rattle.rules.specs.Answer.{Answer, answer, refuse, unless, unless_at, fails_at, and_then, reading}
use Rattle.rules.specs.Text.{Field, Before, edge, number, gap, is_digit, is_blank, after, value_of, fields_from, bytes_count}

-- where the first `/` stands
unfoldable pub slash_in : List ℕ → Option ℕ
slash_in s = first_below (λ i. eqb (get_or s i 0) 47) (length s)

-- Whether the byte b can stand in a front part, "blanks, digits, blanks", after what stands before it: a digit after a gap is a second number.
unfoldable pub stands_in_front : Before → ℕ → Bool
stands_in_front edge b = is_blank b || is_digit b
stands_in_front number b = is_blank b || is_digit b
stands_in_front gap b = is_blank b

-- whether digits stood in a front part that has no other fault
abbrev pub has_number : Before → Bool
has_number edge = false
has_number number = true
has_number gap = true

-- "the earliest byte that can't stand where it is (a front part empty or all blanks: its `/`; with two numbers: the second)",
-- of the rest of a front part that begins at the place i
unfoldable pub front_fault_from : Before → ℕ → List ℕ → Option ℕ
front_fault_from w i [] = fails_at i (has_number w)
front_fault_from w i (b ∷ s) = cond (stands_in_front w b) (front_fault_from (after w b) (i + 1) s) (some i)

abbrev pub front_fault : List ℕ → Option ℕ
front_fault s = front_fault_from edge 0 s

-- the number of its one field
abbrev pub first_value : List Field → ℕ
first_value [] = 0
first_value (f ∷ fs) = value_of f

unfoldable pub front_number : List ℕ → ℕ
front_number s = first_value (fields_from 0 s)

-- "start..end, both included, holds the count"
unfoldable pub holds : Partitions → ℕ → ℕ → Bool
holds p c i = leb (start_of p i) c && leb c (end_of p i)

-- "The encoded count is the sum of the earlier lengths, plus count, minus start."
unfoldable pub encoded_in : Partitions → ℕ → ℕ → ℕ
encoded_in p c i = lengths_before p i + (c - start_of p i)

-- Partitions are numbered from 1. "10: partition 0 or above the number there is; 11: count outside the named partition"
unfoldable pub encode_named : Partitions → ℕ → ℕ → Answer ℕ
encode_named p k c =
    unless 10 (leb 1 k && leb k (partitions_in p))
    (unless 11 (holds p c (k - 1))
    (answer (encoded_in p c (k - 1))))

-- "Without one, the partition is the first whose start..end .. holds the count; refused exactly if no partition holds it."
unfoldable pub encode_found : Partitions → ℕ → Option ℕ → Answer ℕ
encode_found p c (some i) = answer (encoded_in p c i)
encode_found p c none = refuse 11

unfoldable pub encode_first : Partitions → ℕ → Answer ℕ
encode_first p c = encode_found p c (first_below (holds p c) (partitions_in p))

-- A stamp as it is written: the partition's number where one stands in front, and what its clock text gives.
pub data Parsed : Type 0 where
  named : ℕ → Reading → Parsed
  unnamed : Reading → Parsed

-- by whether it has a `/`: 5, then what the fields refuse
unfoldable pub parsed_at : List ℕ → List ℕ → List ℕ → Option ℕ → Answer Parsed
parsed_at ms os s none = and_then (bytes_count ms os s 0) (λ r. answer (unnamed r))
parsed_at ms os s (some i) =
    unless_at 5 (front_fault (take i s))
    (and_then (bytes_count ms os s (i + 1)) (λ r. answer (named (front_number (take i s)) r)))

-- a stamp by the moduli and offsets: 4, 5 and the rest
unfoldable pub parse_stamp : List ℕ → List ℕ → List ℕ → Answer Parsed
parse_stamp ms os s = unless 4 (leb (length s) longest_text) (parsed_at ms os s (slash_in s))

-- then 10 and 11
unfoldable pub encode : Partitions → Parsed → Answer Reading
encode p (named k r) = and_then (encode_named p k r.count) (λ e. answer (reading e))
encode p (unnamed r) = and_then (encode_first p r.count) (λ e. answer (reading e))

-- The call: a stamp, with or without a partition, to its encoded count. 1 and 2, then 4, 5 and the rest.
unfoldable pub read_stamp : Layout → Partitions → List ℕ → Answer Reading
read_stamp l p s = accepted_stamps l p (and_then (parse_stamp (moduli_of l) (offsets_of l) s) (encode p))
