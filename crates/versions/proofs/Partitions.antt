-- The newer keeps the old partitions in place: row by row, and what that makes of the sums of lengths.
use Prim.Native.Nat.{ℕ, ◌+◌, ◌-◌, ◌≤◌, ◌<◌}
use native.Mathlib.Omega.{arith}
use mathlib.Core.Path.{◌≡◌}
use lib.Dec.{ltb}
use borrow.Author.Tests.{ltb-true, ltb-false}
use Rattle.base.proofs.Tests.{by_test}
use Rattle.base.proofs.Scans.{sum_next, sum_same, sum_up}
use Rattle.rules.specs.Partitions.{Partitions, partitions_in, start_of, end_of, length_of, lengths_before, total_of}

abbrev pub last_of : Partitions → ℕ
last_of p = partitions_in p - 1

pub record KeptPartitions (p q : Partitions) : Type 0 where
  pub some : 1 ≤ partitions_in p
  pub more : partitions_in p ≤ partitions_in q
  pub starts : (i : ℕ) → i < partitions_in p → start_of q i ≡ start_of p i
  pub ends : (i : ℕ) → i + 1 < partitions_in p → end_of q i ≡ end_of p i
  pub last_end : end_of p (last_of p) ≤ end_of q (last_of p)
  pub older_rows : (i : ℕ) → i < partitions_in p → start_of p i < end_of p i
  pub newer_rows : (i : ℕ) → i < partitions_in q → start_of q i < end_of q i

-- one more length
pub before_next : (p : Partitions) (i : ℕ) → lengths_before p (i + 1) ≡ lengths_before p i + length_of p i
unfolding lengths_before
before_next p i = sum_next (length_of p) i

pub before_up : (p : Partitions) (i j : ℕ) → i ≤ j → lengths_before p i ≤ lengths_before p j
unfolding lengths_before
before_up p i j h = sum_up (length_of p) i j h

module _ (p q : Partitions) (kept : KeptPartitions p q) where
  pub last_in : last_of p < partitions_in p
  last_in = omega arith

  pub end_up : (i : ℕ) → i < partitions_in p → end_of p i ≤ end_of q i
  end_up i h =
      by_test (ltb (i + 1) (partitions_in p))
      (λ t. let e = kept.ends i (ltb-true _ _ t) in omega arith)
      (λ f. let e : i ≡ last_of p = omega (arith, ltb-false) in rw e kept.last_end)

  pub before_same : (i : ℕ) → i < partitions_in p → lengths_before q i ≡ lengths_before p i
  unfolding lengths_before
  before_same i h = sum_same (length_of q) (length_of p) i (λ j b. rw (kept.starts j (omega arith), kept.ends j (omega arith)))

  pub through_up : (i : ℕ) → i < partitions_in p → lengths_before p (i + 1) ≤ lengths_before q (i + 1)
  through_up i h = omega (arith, before_next p i, before_next q i, before_same i h, end_up i h, kept.starts i h)

  pub total_through : total_of p ≡ lengths_before p (last_of p + 1)
  unfolding total_of
  total_through = let e : last_of p + 1 ≡ partitions_in p = omega arith in rw e

  pub total_up : total_of p ≤ total_of q
  unfolding total_of
  total_up =
      let e : last_of p + 1 ≡ partitions_in p = omega arith in
      let up = rw e at (through_up (last_of p) last_in) in
      omega (arith, before_up q (partitions_in p) (partitions_in q) kept.more)

  -- through the older's last partition, by its end in the newer, and through the one after it
  pub through_kept : end_of q (last_of p) ≡ end_of p (last_of p) → lengths_before q (last_of p + 1) ≡ total_of p
  through_kept e =
      let i = last_of p in
      omega (arith, total_through, before_next p i, before_next q i, before_same i last_in, kept.starts i last_in)

  pub through_longer : (end_of q (last_of p) ≡ end_of p (last_of p) → ⊥) → total_of p < lengths_before q (last_of p + 1)
  through_longer d =
      let i = last_of p in
      omega (arith, total_through, before_next p i, before_next q i, before_same i last_in, kept.starts i last_in, kept.older_rows i last_in)

  pub through_next : partitions_in p < partitions_in q → total_of p < lengths_before q (last_of p + 1 + 1)
  through_next m =
      let i = last_of p in
      omega (arith, total_through, through_up i last_in, before_next q (i + 1), kept.newer_rows (i + 1) (omega arith))
