-- One row, and the rows before row i: they are good, and t is the sum of their lengths.
use Prim.Native.Nat.{ℕ, ◌+◌, ◌-◌, ◌≤◌, ◌<◌}
use mathlib.Core.Path.{◌≡◌, sym, ◌∙◌}
use mathlib.Core.Bool.{Bool, true, false, not}
use mathlib.Core.List.{List}
use native.Mathlib.Omega.{arith}
use lib.ListN.{get_or}
use mir.Syntax.{w64}
use mir.Val.{Fits}
use borrow.Author.Count.{below_more}
use borrow.Author.Tests.{ltb-true, leb-true, not-true, not-false}
use Rattle.base.proofs.Tests.{all_of_head, all_of_tail}
use Rattle.base.proofs.Scans.{sum_start, sum_next}
use Rattle.rules.specs.Limits.{largest_total}
use Rattle.rules.specs.Partitions.{partitions, length_of, lengths_before, partition_ok}
use Rattle.partitions.specs.Total.{row_ok}

-- a good row
module _ (P t start end : ℕ) where
  module _ {b : Bool} (test : b ≡ row_ok P t start end) (good : not b ≡ false) where
    holds : row_ok P t start end ≡ true
    holds = sym test ∙ not-false b good

    pub in_order : start ≤ end
    unfolding row_ok
    in_order = let l = ltb-true start end (all_of_head _ _ holds) in omega arith

    small_sum : t + (end - start) ≤ largest_total
    unfolding row_ok
    small_sum = leb-true _ _ (all_of_head _ _ (all_of_tail _ _ (all_of_tail _ _ holds)))

    pub sum_fits : Fits w64 (t + (end - start))
    sum_fits = let l = small_sum in record { fits = omega arith }

pub record RowsTo (P : ℕ) (ss es : List ℕ) (i t : ℕ) : Type 0 where
  pub good : (j : ℕ) → j < i → partition_ok P (partitions ss es) j ≡ true
  pub total : t ≡ lengths_before (partitions ss es) i
  pub small : t ≤ largest_total

module _ (P : ℕ) (ss es : List ℕ) where
  pub rows_start : RowsTo P ss es 0 0
  unfolding lengths_before
  rows_start = record { good = λ j h. absurd (omega arith); total = sym (sum_start (length_of (partitions ss es))); small = omega arith }

  -- row i, wherever the code has it from
  module _ (i t : ℕ) (w : RowsTo P ss es i t) (start end : ℕ) (s : start ≡ get_or ss i 0) (e : end ≡ get_or es i 0) {b : Bool} (test : b ≡ row_ok P t start end) where
    sum : lengths_before (partitions ss es) (i + 1) ≡ t + (end - start)
    unfolding lengths_before
    sum = rw (sum_next (length_of (partitions ss es)) i, ← w.total, s, e)

    row_test : partition_ok P (partitions ss es) i ≡ b
    unfolding partition_ok row_ok
    row_test = rw (test, sum, s, e)

    pub rows_turn : not b ≡ false → RowsTo P ss es (i + 1) (t + (end - start))
    rows_turn h =
        record {
          good = below_more _ _ w.good (row_test ∙ not-false b h);
          total = sym sum;
          small = small_sum P t start end test h;
        }

    pub row_fails : not b ≡ true → partition_ok P (partitions ss es) i ≡ false
    row_fails h = row_test ∙ not-true b h
