-- "Two lists, start and end, of one length".
use Rattle.std.specs.Prelude.{ℕ, ◌+◌, ◌-◌, min, Bool, cond, List, [], ◌∷◌, leb, ltb, eqb, length, get_or}
use Rattle.std.proofs.Math.Option.{Option, some}
use Rattle.base.specs.Scans.{all_of, first_not, is_none, sum_below}
use Rattle.rules.specs.Limits.{most_partitions, largest_total}

pub record Partitions : Type 0 where
  pub starts : List ℕ
  pub ends : List ℕ

abbrev pub partitions : List ℕ → List ℕ → Partitions
partitions ss es = record { starts = ss; ends = es }

-- how many partitions there are
abbrev pub partitions_in : Partitions → ℕ
partitions_in p = length p.starts

abbrev pub start_of : Partitions → ℕ → ℕ
start_of p i = get_or p.starts i 0

abbrev pub end_of : Partitions → ℕ → ℕ
end_of p i = get_or p.ends i 0

-- "A partition's length is end minus start."
abbrev pub length_of : Partitions → ℕ → ℕ
length_of p i = end_of p i - start_of p i

-- the sum of the lengths before partition i
unfoldable pub lengths_before : Partitions → ℕ → ℕ
lengths_before p i = sum_below (length_of p) i

-- "The sum of lengths, called the total" (the paper's term)
unfoldable pub total_of : Partitions → ℕ
total_of p = lengths_before p (partitions_in p)

-- What partition i must meet: "Each start is below its end, each end is at most P - 1." "The sum of lengths .. is at most 10^15":
-- "for a sum the row that passes the limit".
unfoldable pub partition_ok : ℕ → Partitions → ℕ → Bool
partition_ok P p i =
    all_of
    (ltb (start_of p i) (end_of p i)
    ∷ ltb (end_of p i) P
    ∷ leb (lengths_before p (i + 1)) largest_total
    ∷ [])

-- "of one length from 1 to 9,999"
unfoldable pub partition_lengths_ok : Partitions → Bool
partition_lengths_ok p =
    all_of (eqb (length p.ends) (partitions_in p) ∷ leb 1 (partitions_in p) ∷ leb (partitions_in p) most_partitions ∷ [])

-- Where 2 is found. "Wrong list lengths come first and give the shortest length"; then "the first row, from 0, that breaks a rule".
unfoldable pub partitions_fault : ℕ → Partitions → Option ℕ
partitions_fault P p =
    cond (partition_lengths_ok p) (first_not (partition_ok P p) (partitions_in p)) (some (min (partitions_in p) (length p.ends)))

-- accepted: no fault
abbrev pub partitions_ok : ℕ → Partitions → Bool
partitions_ok P p = is_none (partitions_fault P p)
