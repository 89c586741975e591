-- What a row that is kept has, and a row that has it is kept.
use Prim.Native.Nat.{ℕ, ◌+◌, ◌≤◌, ◌<◌}
use native.Mathlib.Omega.{arith}
use mathlib.Core.Path.{◌≡◌, refl}
use mathlib.Core.Bool.{true}
use mathlib.Core.Option.{none}
use lib.Dec.{ltb}
use borrow.Author.Tests.{ltb-true, ltb-false, leb-true, eqb-true, lt-ltb, le-ltb, le-leb, eq-eqb}
use Rattle.base.specs.Scans.{all_of}
use Rattle.base.proofs.Tests.{by_test, and_both, all_of_head, all_of_tail}
use Rattle.base.proofs.Scans.{first_not_missing}
use Rattle.rules.specs.Partitions.{Partitions, partitions_in, end_of}
use Rattle.rules.specs.Segments.{Segments, segments_in}
use Rattle.versions.proofs.Equal.{eq_z_true, eq_eq_z}
use Rattle.succession_rules.specs.Rows.{PartitionRow, SegmentRow}
use Rattle.succession_rules.specs.Kept.{end_kept, partition_kept, partition_lost, same_segment, segment_kept, segment_lost}

pub partition_row : (p q : Partitions) (i : ℕ) → partition_kept p q i ≡ true → PartitionRow p q i
unfolding partition_kept end_kept
partition_row p q i h =
    let h1 = all_of_tail _ _ h in
    let end = all_of_head _ _ (all_of_tail _ _ h1) in
    record {
      there = ltb-true _ _ (all_of_head _ _ h);
      start = eqb-true _ _ (all_of_head _ _ h1);
      inner = λ b. eqb-true _ _ (rw (lt-ltb (i + 1) (partitions_in p) b) at end);
      last = λ b. leb-true _ _ (rw (le-ltb (i + 1) (partitions_in p) b) at end);
    }

pub row_partition : (p q : Partitions) (i : ℕ) → PartitionRow p q i → partition_kept p q i ≡ true
unfolding partition_kept end_kept all_of
row_partition p q i w =
    and_both (lt-ltb _ _ w.there)
    (and_both (eq-eqb _ _ w.start)
    (by_test (ltb (i + 1) (partitions_in p))
    (λ t. rw (t, eq-eqb (end_of q i) (end_of p i) (w.inner (ltb-true _ _ t))))
    (λ f. rw (f, le-leb (end_of p i) (end_of q i) (w.last (ltb-false _ _ f))))))

pub segment_row : (g h : Segments) (i : ℕ) → segment_kept g h i ≡ true → SegmentRow g h i
unfolding segment_kept same_segment
segment_row g h i k =
    let s = all_of_head _ _ (all_of_tail _ _ k) in
    let s1 = all_of_tail _ _ s in
    record {
      there = ltb-true _ _ (all_of_head _ _ k);
      count = eqb-true _ _ (all_of_head _ _ s);
      time = eq_z_true _ _ (all_of_head _ _ s1);
      rate = eqb-true _ _ (all_of_head _ _ (all_of_tail _ _ s1));
    }

pub row_segment : (g h : Segments) (i : ℕ) → SegmentRow g h i → segment_kept g h i ≡ true
unfolding segment_kept same_segment all_of
row_segment g h i w =
    and_both (lt-ltb _ _ w.there)
    (and_both (and_both (eq-eqb _ _ w.count) (and_both (eq_eq_z _ _ w.time) (and_both (eq-eqb _ _ w.rate) refl))) refl)

-- n rows that are all there fit
pub rows_fit : (n m : ℕ) → ((i : ℕ) → i < n → i < m) → n ≤ m
rows_fit n m f = by_test (ltb m n) (λ t. let b : m < n = ltb-true m n t in let c = f m b in omega arith) (λ e. ltb-false m n e)

-- where every row of the older is kept, the newer has as many
pub partitions_fit : (p q : Partitions) → partition_lost p q ≡ none → partitions_in p ≤ partitions_in q
unfolding partition_lost
partitions_fit p q e = rows_fit _ _ (λ i b. (partition_row p q i (first_not_missing (partition_kept p q) (partitions_in p) i e b)).there)

pub segments_fit : (g h : Segments) → segment_lost g h ≡ none → segments_in g ≤ segments_in h
unfolding segment_lost
segments_fit g h e = rows_fit _ _ (λ i b. (segment_row g h i (first_not_missing (segment_kept g h) (segments_in g) i e b)).there)
