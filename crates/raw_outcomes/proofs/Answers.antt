-- What an accepted reset and an accepted reading answer, and what a call leaves by its answer.
use Prim.Native.Nat.{ℕ, ◌+◌, ◌-◌, ◌≤◌}
use mathlib.Core.Path.{◌≡◌, sym}
use mathlib.Core.Bool.{true, ◌&&◌}
use lib.Dec.{leb}
use native.Mathlib.Omega.{arith}
use borrow.Author.Tests.{leb-true, le-leb}
use Rattle.base.proofs.Tests.{and_first, and_second}
use Rattle.base.proofs.Scans.{sum_up}
use Rattle.rules.specs.declared.Layout.{Layout}
use Rattle.rules.specs.Answer.{Answer, answer, refused, unless, Numbered}
use Rattle.rules.specs.Layout.{layout_ok, product_of}
use Rattle.rules.specs.Partitions.{Partitions, partitions_in, start_of, end_of, length_of, lengths_before, total_of, partitions_fault, partitions_ok}
use Rattle.rules.specs.Stamp.{holds, encoded_in, encode_named}
use Rattle.rules.proofs.Accepted.{partitions_facts}
use Rattle.rules.specs.Accepted.{accepted_stamps}
use Rattle.rules.proofs.Answers.{payload, unless-test, unless-rest, unless-at-none, unless-at-rest}
use Rattle.raw_rules.specs.declared.RawCounter.{RawCounter}
use Rattle.raw_rules.specs.Counter.{raw_difference, reset_raw, not_past, read_raw, counter_after}

-- behind 1 and 2
accepted-rest : {A : Type 0} (l : Layout) (p : Partitions) (a : Answer A) (v : A) → accepted_stamps l p a ≡ answer v → a ≡ answer v
accepted-rest l p a v h = unless-at-rest 2 (partitions_fault (product_of l) p) a v (unless-rest 1 (layout_ok l) _ v h)

module _ (l : Layout) (p : Partitions) where
  module _ (number e : ℕ) (h : reset_raw l p number ≡ answer e) where
    named : unless 10 (leb 1 number && leb number (partitions_in p)) (answer (lengths_before p (number - 1))) ≡ answer e
    unfolding reset_raw
    named = accepted-rest l p _ e h

    pub reset-count : e ≡ lengths_before p (number - 1)
    reset-count = sym (payload (unless-rest 10 (leb 1 number && leb number (partitions_in p)) _ e named))

    pub reset_within : e ≤ total_of p
    unfolding lengths_before total_of
    reset_within =
        let there = unless-test 10 (leb 1 number && leb number (partitions_in p)) _ e named in
        let few = leb-true number (partitions_in p) (and_second (leb 1 number) _ there) in
        rw reset-count (sum_up (length_of p) (number - 1) (partitions_in p) (omega (arith, few)))

    no_fault : partitions_ok (product_of l) p ≡ true
    unfolding reset_raw
    no_fault = rw (unless-at-none 2 (partitions_fault (product_of l) p) _ e (unless-rest 1 (layout_ok l) _ e h))

    pub reset_start_lem : encode_named p number (start_of p (number - 1)) ≡ answer e
    unfolding encode_named unless holds encoded_in
    reset_start_lem =
        let there = unless-test 10 (leb 1 number && leb number (partitions_in p)) _ e named in
        let low = leb-true 1 number (and_first (leb 1 number) _ there) in
        let few = leb-true number (partitions_in p) (and_second (leb 1 number) _ there) in
        let ordered = ((partitions_facts (product_of l) p no_fault).each (number - 1) (omega (arith, low, few))).ordered in
        let start : lengths_before p (number - 1) + (start_of p (number - 1) - start_of p (number - 1)) ≡ e = omega (arith, reset-count) in
        rw (there, le-leb (start_of p (number - 1)) (start_of p (number - 1)) (omega arith), le-leb (start_of p (number - 1)) (end_of p (number - 1)) (omega (arith, ordered)), start)

  module _ (c : RawCounter) (raw e : ℕ) (h : read_raw l p c raw ≡ answer e) where
    after-tables : unless 27 c.started (not_past (total_of p) (c.count + raw_difference raw c.raw)) ≡ answer e
    unfolding read_raw
    after-tables = accepted-rest l p _ e h

    pub read-started : c.started ≡ true
    read-started = unless-test 27 c.started _ e after-tables

    summed : not_past (total_of p) (c.count + raw_difference raw c.raw) ≡ answer e
    summed = unless-rest 27 c.started _ e after-tables

    pub read_count_lem : e ≡ c.count + raw_difference raw c.raw
    unfolding not_past
    read_count_lem = sym (payload (unless-rest 12 (leb (c.count + raw_difference raw c.raw) (total_of p)) _ e summed))

    pub read_within : e ≤ total_of p
    unfolding not_past
    read_within = rw read_count_lem (leb-true (c.count + raw_difference raw c.raw) (total_of p) (unless-test 12 (leb (c.count + raw_difference raw c.raw) (total_of p)) _ e summed))

-- what a call leaves, by its answer
module _ (c : RawCounter) (raw : ℕ) (a : Answer ℕ) where
  pub left-refused : (k : Numbered) → a ≡ refused k → counter_after c raw a ≡ c
  unfolding counter_after
  left-refused k h = rw h

  pub left-answer : (e : ℕ) → a ≡ answer e → counter_after c raw a ≡ record { started = true; raw = raw; count = e }
  unfolding counter_after
  left-answer e h = rw h
