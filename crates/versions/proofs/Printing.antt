-- Printing an encoded count as a stamp: outside the exception both tables choose one partition, and inside it the newer chooses the next.
use Prim.Native.Nat.{ℕ, ◌+◌, ◌≤◌, ◌<◌}
use native.Mathlib.Nat.{le_refl}
use native.Mathlib.Omega.{arith}
use mathlib.Core.Path.{◌≡◌, sym, ◌∙◌}
use mathlib.Core.Bool.{Bool, false}
use mathlib.Core.Logic.{⊎_elim}
use lib.Dec.{ltb, eqb}
use borrow.Author.Tests.{ltb-true, ltb-false, lt-ltb, le-ltb, eqb-true, eqb-false}
use Rattle.base.proofs.Tests.{by_test}
use Rattle.base.proofs.Scans.{First, first_or, first_is, first_none}
use Rattle.rules.specs.declared.Layout.{Layout}
use Rattle.rules.specs.Partitions.{Partitions, partitions_in, start_of, end_of, lengths_before, total_of}
use Rattle.rules.specs.Print.{found_or_last, partition_of, decoded_in, stamp_print}
use Rattle.versions.proofs.Layouts.{OneLayout, print_same}
use Rattle.versions.proofs.Partitions.{last_of, KeptPartitions, last_in, before_next, before_up, before_same, through_up, total_through, through_kept, through_longer, through_next}

-- the running sum of lengths through partition i is above e
abbrev above : Partitions → ℕ → ℕ → Bool
above p e i = ltb e (lengths_before p (i + 1))

-- e is not the exception
abbrev pub Outside : Partitions → Partitions → ℕ → Type 0
Outside p q e = e ≡ total_of p → end_of q (last_of p) ≡ end_of p (last_of p) → partitions_in p < partitions_in q → ⊥

partition_found : (p : Partitions) (e i : ℕ) → First (above p e) (partitions_in p) i → partition_of p e ≡ i
unfolding partition_of found_or_last
partition_found p e i w = rw (first_is (above p e) (partitions_in p) i w)

partition_last : (p : Partitions) (e : ℕ) → ((i : ℕ) → i < partitions_in p → above p e i ≡ false) → partition_of p e ≡ last_of p
unfolding partition_of found_or_last
partition_last p e f = rw (first_none (above p e) (partitions_in p) f)

module _ (p q : Partitions) (kept : KeptPartitions p q) (e : ℕ) where
  above_same : (i : ℕ) → i + 1 < partitions_in p → above q e i ≡ above p e i
  above_same i b = rw (before_same p q kept (i + 1) b)

  first_kept : (i : ℕ) → First (above p e) (partitions_in p) i → First (above q e) (partitions_in q) i
  first_kept i w =
      let b = w.below in
      record {
        below = omega arith;
        holds = lt-ltb e (lengths_before q (i + 1)) (omega (arith, through_up p q kept i b, ltb-true e (lengths_before p (i + 1)) w.holds));
        before = λ j d. above_same j (omega arith) ∙ w.before j d;
      }

  not_above_lem : (r : Partitions) (i : ℕ) → lengths_before r (i + 1) ≤ e → above r e i ≡ false
  not_above_lem r i b = le-ltb e (lengths_before r (i + 1)) b

  -- no running sum of the older is above its total
  module _ (total : e ≡ total_of p) where
    before_last : (i : ℕ) → i < partitions_in p → lengths_before p (i + 1) ≤ e
    before_last i b = omega (arith, total_through p q kept, before_up p (i + 1) (last_of p + 1) (omega arith))

    pub older_last : partition_of p e ≡ last_of p
    older_last = partition_last p e (λ i b. not_above_lem p i (before_last i b))

    -- the last partition ends later in the newer: it is found there
    newer_longer : (end_of q (last_of p) ≡ end_of p (last_of p) → ⊥) → partition_of q e ≡ last_of p
    newer_longer d =
        partition_found q e (last_of p) (record {
          below = omega arith;
          holds = lt-ltb e (lengths_before q (last_of p + 1)) (omega (arith, through_longer p q kept d));
          before = λ j b. above_same j (omega arith) ∙ not_above_lem p j (before_last j (omega arith));
        })

    -- it kept its end, and is still the last: none is found
    newer_last : end_of q (last_of p) ≡ end_of p (last_of p) → partitions_in q ≡ partitions_in p → partition_of q e ≡ last_of p
    newer_last d m =
        partition_last q e (λ i b. not_above_lem q i (omega (arith, through_kept p q kept d, before_up q (i + 1) (last_of p + 1) (omega arith)))) ∙ rw m

    -- it kept its end, and another follows: that one is found
    pub newer_next : end_of q (last_of p) ≡ end_of p (last_of p) → partitions_in p < partitions_in q → partition_of q e ≡ last_of p + 1
    newer_next d m =
        partition_found q e (last_of p + 1) (record {
          below = omega arith;
          holds = lt-ltb e (lengths_before q (last_of p + 1 + 1)) (omega (arith, through_next p q kept m));
          before = λ j b. not_above_lem q j (omega (arith, through_kept p q kept d, before_up q (j + 1) (last_of p + 1) (omega arith)));
        })

    newer_same : (end_of q (last_of p) ≡ end_of p (last_of p) → partitions_in p < partitions_in q → ⊥) → partition_of q e ≡ last_of p
    newer_same outside =
        by_test (eqb (end_of q (last_of p)) (end_of p (last_of p)))
        (λ y. let d = eqb-true (end_of q (last_of p)) (end_of p (last_of p)) y in
        by_test (ltb (partitions_in p) (partitions_in q))
        (λ m. absurd (outside d (ltb-true _ _ m)))
        (λ m. newer_last d (omega (arith, ltb-false))))
        (λ n. newer_longer (eqb-false (end_of q (last_of p)) (end_of p (last_of p)) n))

  total_asked : e ≤ total_of p → above p e (last_of p) ≡ false → e ≡ total_of p
  total_asked b f = omega (arith, total_through p q kept, ltb-false e (lengths_before p (last_of p + 1)) f)

  -- outside the exception: one partition, and one of the older's
  partition_same : e ≤ total_of p → Outside p q e → (partition_of q e ≡ partition_of p e) × (partition_of p e < partitions_in p)
  partition_same b outside =
      ⊎_elim
      (λ w. let f = partition_found p e w.0 w.1 in
      (partition_found q e w.0 (first_kept w.0 w.1) ∙ sym f, rw f w.1.below))
      (λ f. let t = total_asked b (f (last_of p) (last_in p q kept)) in
      (newer_same t (outside t) ∙ sym (older_last t), rw (older_last t) (last_in p q kept)))
      (first_or (above p e) (partitions_in p))

  -- in any case the same partition or a later one
  pub partition_up : e ≤ total_of p → partition_of p e ≤ partition_of q e
  partition_up b =
      by_test (eqb e (total_of p))
      (λ y. at_total (eqb-true e (total_of p) y))
      (λ n. rw (partition_same b (λ t d m. eqb-false e (total_of p) n t)).0 (le_refl _))
    where
      at_total : e ≡ total_of p → partition_of p e ≤ partition_of q e
      at_total t =
          by_test (eqb (end_of q (last_of p)) (end_of p (last_of p)))
          (λ y. let d = eqb-true (end_of q (last_of p)) (end_of p (last_of p)) y in
          by_test (ltb (partitions_in p) (partitions_in q))
          (λ m. rw (older_last t, newer_next t d (ltb-true _ _ m)) (omega arith))
          (λ m. rw (older_last t, newer_last t d (omega (arith, ltb-false))) (le_refl _)))
          (λ n. rw (older_last t, newer_longer t (eqb-false (end_of q (last_of p)) (end_of p (last_of p)) n)) (le_refl _))

  decoded_same : (i : ℕ) → i < partitions_in p → decoded_in q e i ≡ decoded_in p e i
  unfolding decoded_in
  decoded_same i b = rw (kept.starts i b, before_same p q kept i b)

  -- inside it: the end of the older's last partition, and the start of the one after it
  pub older_end : e ≡ total_of p → decoded_in p e (last_of p) ≡ end_of p (last_of p)
  unfolding decoded_in
  older_end t = omega (arith, total_through p q kept, before_next p (last_of p), kept.older_rows (last_of p) (last_in p q kept))

  pub newer_start : e ≡ total_of p → end_of q (last_of p) ≡ end_of p (last_of p) → decoded_in q e (last_of p + 1) ≡ start_of q (last_of p + 1)
  unfolding decoded_in
  newer_start t d = omega (arith, through_kept p q kept d)

module _ (l k : Layout) (p q : Partitions) (one : OneLayout l k) (kept : KeptPartitions p q) (e : ℕ) where
  pub stamp_same : e ≤ total_of p → Outside p q e → stamp_print k q e ≡ stamp_print l p e
  unfolding stamp_print
  stamp_same b outside =
      let s = partition_same p q kept e b outside in
      rw (s.0, decoded_same p q kept e (partition_of p e) s.1, print_same l k one)
