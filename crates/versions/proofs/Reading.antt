-- Reading a stamp: the partition that holds a count in the older table is the one that holds it in the newer, with the same lengths before it.
use Prim.Native.Nat.{ℕ, ◌+◌, ◌-◌, ◌≤◌, ◌<◌}
use native.Mathlib.Omega.{arith}
use mathlib.Core.Path.{◌≡◌, refl, ◌∙◌}
use mathlib.Core.Bool.{true, false, ◌&&◌}
use mathlib.Core.Logic.{⊎_elim}
use lib.Dec.{leb}
use borrow.Author.Tests.{leb-true, le-leb}
use Rattle.base.specs.Scans.{among}
use Rattle.base.proofs.Tests.{by_test, and_both, and_first, and_second}
use Rattle.base.proofs.Scans.{First, first_or, first_is, first_none}
use Rattle.rules.specs.Answer.{refuse, numbered, unless}
use Rattle.rules.specs.Partitions.{Partitions, partitions_in, start_of, end_of}
use Rattle.rules.specs.Stamp.{holds, encoded_in, encode_named, encode_found, encode_first, Parsed, named, unnamed, encode}
use Rattle.versions.specs.Versions.{Agree, older_refuses_stamp}
use Rattle.versions.proofs.Agreement.{agree_same, agree_refused, agree_then}
use Rattle.versions.proofs.Partitions.{KeptPartitions, end_up, before_same}

module _ (p q : Partitions) (kept : KeptPartitions p q) (c : ℕ) where
  holds_same : (i : ℕ) → i + 1 < partitions_in p → holds q c i ≡ holds p c i
  unfolding holds
  holds_same i b = rw (kept.starts i (omega arith), kept.ends i b)

  pub holds_up : (i : ℕ) → i < partitions_in p → holds p c i ≡ true → holds q c i ≡ true
  unfolding holds
  holds_up i b y =
      let c-low = and_first (leb (start_of p i) c) (leb c (end_of p i)) y in
      let c-high : c ≤ end_of p i = leb-true _ _ (and_second (leb (start_of p i) c) (leb c (end_of p i)) y) in
      rw (kept.starts i b) (and_both c-low (le-leb c (end_of q i) (omega (arith, end_up p q kept i b))))

  pub encoded_same : (i : ℕ) → i < partitions_in p → encoded_in q c i ≡ encoded_in p c i
  unfolding encoded_in
  encoded_same i b = rw (before_same p q kept i b, kept.starts i b)

  named_same : (n : ℕ) → (leb 1 n && leb n (partitions_in p)) ≡ true → holds p c (n - 1) ≡ true → encode_named p n c ≡ encode_named q n c
  unfolding encode_named unless
  named_same n y z =
      let low : 1 ≤ n = leb-true _ _ (and_first (leb 1 n) (leb n (partitions_in p)) y) in
      let high : n ≤ partitions_in p = leb-true _ _ (and_second (leb 1 n) (leb n (partitions_in p)) y) in
      let b : n - 1 < partitions_in p = omega arith in
      rw (y, z, le-leb 1 n low, le-leb n (partitions_in q) (omega arith), holds_up (n - 1) b z, encoded_same (n - 1) b)

  named_agrees : (n : ℕ) → Agree older_refuses_stamp (encode_named p n c) (encode_named q n c)
  unfolding among
  named_agrees n =
      by_test (leb 1 n && leb n (partitions_in p))
      (λ y. by_test (holds p c (n - 1)) (λ z. agree_same (named_same n y z)) (λ f. agree_refused (numbered 11) (outside y f) refl))
      (λ f. agree_refused (numbered 10) (unknown f) refl)
    where
      outside : (leb 1 n && leb n (partitions_in p)) ≡ true → holds p c (n - 1) ≡ false → encode_named p n c ≡ refuse 11
      outside y f = unfold encode_named unless in rw (y, f)

      unknown : (leb 1 n && leb n (partitions_in p)) ≡ false → encode_named p n c ≡ refuse 10
      unknown f = unfold encode_named unless in rw f

  first_kept : (i : ℕ) → First (holds p c) (partitions_in p) i → First (holds q c) (partitions_in q) i
  first_kept i w =
      let b = w.below in
      record {
        below = omega arith;
        holds = holds_up i b w.holds;
        before = λ j d. holds_same j (omega arith) ∙ w.before j d;
      }

  first_agrees : Agree older_refuses_stamp (encode_first p c) (encode_first q c)
  unfolding encode_first encode_found among
  first_agrees =
      ⊎_elim
      (λ w. let found = first_is (holds q c) (partitions_in q) w.0 (first_kept w.0 w.1) in
      agree_same (rw (first_is (holds p c) (partitions_in p) w.0 w.1, found, encoded_same w.0 w.1.below)))
      (λ f. agree_refused (numbered 11) (rw (first_none (holds p c) (partitions_in p) f)) refl)
      (first_or (holds p c) (partitions_in p))

module _ (p q : Partitions) (kept : KeptPartitions p q) where
  pub encode_agrees : (x : Parsed) → Agree older_refuses_stamp (encode p x) (encode q x)
  unfolding encode
  encode_agrees (named n r) = agree_then _ _ (named_agrees p q kept r.count n) (λ e. agree_same refl)
  encode_agrees (unnamed r) = agree_then _ _ (first_agrees p q kept r.count) (λ e. agree_same refl)
