-- The lines of partitions, as the code puts them.
use Prim.Native.Nat.{ℕ, ◌+◌, ◌≤◌}
use mathlib.Core.Path.{◌≡◌}
use mathlib.Core.List.{List, [], ◌∷◌, ◌++◌, append_assoc}
use lib.ListN.{length, get_or}
use native.Mathlib.Omega.{arith}
use Rattle.rules.specs.Partitions.{partitions, lengths_before}
use Rattle.rules.specs.Examples.{bytes}
use Rattle.decimal.specs.Writing.{Written}
use Rattle.decimal.proofs.LeftToRight.{written_then}
use Rattle.number_text.specs.Numbers.{decimal_of, longest_number}
use Rattle.command_rules.specs.Describe.{partition_line}
use Rattle.command_ends.proofs.Parts.{written_three}
use Rattle.command_rows.specs.Rows.{rows_between, partition_row, longest_partition}
use Rattle.command_rows.proofs.RowByRow.{rows_next}

module _ (number start end first at a b c r : ℕ) {entry one two three exit : List ℕ} (room : at + longest_partition ≤ length entry)
    (w : Written ((112 ∷ 97 ∷ 114 ∷ 116 ∷ 105 ∷ 116 ∷ 105 ∷ 111 ∷ 110 ∷ 9 ∷ []) ++ (decimal_of number ++ (9 ∷ []))) a at entry one) (h : a ≤ at + 10 + longest_number + 1)
    (v : Written (decimal_of start ++ (9 ∷ [])) b a one two) (k : b ≤ a + longest_number + 1)
    (u : Written (decimal_of end ++ (9 ∷ [])) c b two three) (m : c ≤ b + longest_number + 1)
    (z : Written (decimal_of first ++ (10 ∷ [])) r c three exit) where
  pub partition_put : Written (partition_row number start end first) r at entry exit
  unfolding partition_row bytes
  partition_put =
      let front = written_then w v (omega arith) in
      rw
      (append_assoc (decimal_of number ++ (9 ∷ [])) (decimal_of start ++ (9 ∷ [])) ((decimal_of end ++ (9 ∷ [])) ++ (decimal_of first ++ (10 ∷ []))), append_assoc (decimal_of number) (9 ∷ []) ((decimal_of start ++ (9 ∷ [])) ++ ((decimal_of end ++ (9 ∷ [])) ++ (decimal_of first ++ (10 ∷ [])))), append_assoc (decimal_of start) (9 ∷ []) ((decimal_of end ++ (9 ∷ [])) ++ (decimal_of first ++ (10 ∷ []))), append_assoc (decimal_of end) (9 ∷ []) (decimal_of first ++ (10 ∷ [])))
      at (written_three front u z (omega arith) (omega arith))

-- partition i, as the code has it
pub partition_next : (ss es : List ℕ) (from i put r : ℕ) {entry out exit : List ℕ} (number start end first : ℕ)
    → Written (rows_between (partition_line (partitions ss es)) from i) put 0 entry out → Written (partition_row number start end first) r put out exit
    → number ≡ i + 1 → start ≡ get_or ss i 0 → end ≡ get_or es i 0 → first ≡ lengths_before (partitions ss es) i → from ≤ i → put ≤ length entry
    → Written (rows_between (partition_line (partitions ss es)) from (i + 1)) r 0 entry exit
unfolding partition_line partition_row
partition_next ss es from i put r number start end first w v e f g k h l = rows_next (partition_line (partitions ss es)) from i put r h w l (rw (e, f, g, k) at v)
