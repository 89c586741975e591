-- What each way out of `check` says of the partitions: 2 and where, or their total. The code has n starts and m ends, wherever they lie.
use Prim.Native.Nat.{ℕ, ◌≤◌, ◌<◌, min}
use mathlib.Core.Path.{◌≡◌, sym, ◌∙◌}
use mathlib.Core.Bool.{Bool, true, false, not}
use mathlib.Core.List.{List}
use native.Mathlib.Omega.{arith}
use lib.ListN.{length, get_or}
use borrow.Author.Tests.{eqb-true, not-true, not-false}
use Rattle.base.proofs.Tests.{all_of_head}
use Rattle.base.proofs.Scans.{first_not_is, first_not_none}
use Rattle.rules.specs.Answer.{answer, refused, placed, unless_at, Numbered}
use Rattle.rules.specs.Partitions.{partitions, partition_ok, partition_lengths_ok, partitions_fault, total_of}
use Rattle.partitions.specs.Total.{accepted_total, lengths_ok, row_ok}
use Rattle.partitions.proofs.Rows.{RowsTo, row_fails}

-- what `lengths_ok` says of the ends
module _ (n m : ℕ) where
  pub ends_there : (es : List ℕ) → m ≡ length es → {b : Bool} → b ≡ lengths_ok n m → not b ≡ false → (i : ℕ) → i < n → i < length es
  unfolding lengths_ok
  ends_there es em {b} test good i h = let same : m ≡ n = eqb-true m n (all_of_head _ _ (sym test ∙ not-false b good)) in omega arith

module _ (P : ℕ) (ss es : List ℕ) where
  -- 2 at the place i is the answer
  abbrev Refuses : ℕ → Type 0
  Refuses i = (r : Numbered) → r ≡ placed 2 i → refused r ≡ accepted_total P (partitions ss es)

  module _ (n m : ℕ) (en : n ≡ length ss) (em : m ≡ length es) {a : Bool} (lengths : a ≡ lengths_ok n m) where
    length_test_is : partition_lengths_ok (partitions ss es) ≡ a
    unfolding partition_lengths_ok lengths_ok
    length_test_is = rw (lengths, en, em)

    pub lengths_out : not a ≡ true → (i : ℕ) → i ≡ min n m → Refuses i
    unfolding accepted_total partitions_fault unless_at
    lengths_out bad i e r q = rw (q, length_test_is ∙ not-true a bad, e, en, em)

    module _ (good : not a ≡ false) (i t : ℕ) (w : RowsTo P ss es i t) where
      good_lengths : partition_lengths_ok (partitions ss es) ≡ true
      good_lengths = length_test_is ∙ not-false a good

      pub row_out : i < n → (start end : ℕ) → start ≡ get_or ss i 0 → end ≡ get_or es i 0 → {b : Bool} → b ≡ row_ok P t start end → not b ≡ true → Refuses i
      unfolding accepted_total partitions_fault unless_at
      row_out within start end s e test h r q =
          rw (q, good_lengths, first_not_is (partition_ok P (partitions ss es)) (length ss) i (record { below = rw en at within; fails_here = row_fails P ss es i t w start end s e test h; before = w.good }))

      pub accepted : i ≤ n → n ≤ i → answer t ≡ accepted_total P (partitions ss es)
      unfolding accepted_total partitions_fault unless_at total_of
      accepted up down =
          let whole : i ≡ length ss = omega arith in
          rw (good_lengths, first_not_none (partition_ok P (partitions ss es)) (length ss) (λ j h. w.good j (omega arith)), w.total, whole)
