-- Texts put behind one another.
use Prim.Native.Nat.{ℕ, ◌≤◌}
use mathlib.Core.List.{List, ◌++◌, append_assoc}
use lib.ListN.{length}
use Rattle.decimal.specs.Writing.{Written}
use Rattle.decimal.proofs.LeftToRight.{written_then}

module _ {s t u : List ℕ} {a b at : ℕ} {entry first second : List ℕ} (x : Written s a at entry first) (y : Written t b a first second) where
  pub written_three : {r : ℕ} {exit : List ℕ} → Written u r b second exit → a ≤ length entry → b ≤ length entry → Written (s ++ (t ++ u)) r at entry exit
  written_three z h k = rw (append_assoc s t u) at (written_then (written_then x y h) z k)
