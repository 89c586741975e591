-- The lines after the rows, as the code puts them.
use Prim.Native.Nat.{ℕ, ◌+◌, ◌*◌, ◌≤◌}
use mathlib.Core.List.{List, [], ◌∷◌, ◌++◌}
use lib.ListN.{length}
use native.Mathlib.Omega.{arith}
use Rattle.rules.specs.Examples.{bytes}
use Rattle.decimal.specs.Writing.{Written}
use Rattle.decimal.proofs.LeftToRight.{written_then}
use Rattle.number_text.specs.Numbers.{decimal_of, longest_number}
use Rattle.command_rules.specs.Describe.{number_line}
use Rattle.command_ends.specs.Ends.{longest_number_line, longest_tail, table_lines, jump_lines, tail_lines}
use Rattle.command_ends.proofs.Parts.{written_three}

module _ (x y z at a b r : ℕ) {entry first second exit : List ℕ} where
  pub table_put :
      (room : at + 3 * longest_number_line ≤ length entry) (w : Written ((102 ∷ 105 ∷ 101 ∷ 108 ∷ 100 ∷ 115 ∷ 9 ∷ []) ++ (decimal_of x ++ (10 ∷ []))) a at entry first) (h : a ≤ at + 7 + longest_number + 1)
      (v : Written ((112 ∷ 97 ∷ 114 ∷ 116 ∷ 105 ∷ 116 ∷ 105 ∷ 111 ∷ 110 ∷ 115 ∷ 9 ∷ []) ++ (decimal_of y ++ (10 ∷ []))) b a first second) (k : b ≤ a + 11 + longest_number + 1)
      (u : Written ((116 ∷ 111 ∷ 116 ∷ 97 ∷ 108 ∷ 9 ∷ []) ++ (decimal_of z ++ (10 ∷ []))) r b second exit) → Written (table_lines x y z) r at entry exit
  unfolding table_lines number_line bytes
  table_put room w h v k u = written_three w v u (omega arith) (omega arith)

  pub jumps_put :
      (room : at + 3 * longest_number_line ≤ length entry) (w : Written ((115 ∷ 101 ∷ 103 ∷ 109 ∷ 101 ∷ 110 ∷ 116 ∷ 115 ∷ 9 ∷ []) ++ (decimal_of x ++ (10 ∷ []))) a at entry first) (h : a ≤ at + 9 + longest_number + 1)
      (v : Written ((103 ∷ 97 ∷ 112 ∷ 115 ∷ 9 ∷ []) ++ (decimal_of y ++ (10 ∷ []))) b a first second) (k : b ≤ a + 5 + longest_number + 1)
      (u : Written ((115 ∷ 116 ∷ 101 ∷ 112 ∷ 115 ∷ 32 ∷ 98 ∷ 97 ∷ 99 ∷ 107 ∷ 9 ∷ []) ++ (decimal_of z ++ (10 ∷ []))) r b second exit) → Written (jump_lines x y z) r at entry exit
  unfolding jump_lines number_line bytes
  jumps_put room w h v k u = written_three w v u (omega arith) (omega arith)

pub tail_put : (x y z s g b place r : ℕ) {entry out exit : List ℕ} → longest_tail ≤ length entry → Written (table_lines x y z) place 0 entry out → place ≤ 0 + 3 * longest_number_line
    → Written (jump_lines s g b) r place out exit → Written (tail_lines x y z s g b) r 0 entry exit
unfolding tail_lines
tail_put x y z s g b place r room w h v = written_then w v (omega arith)
