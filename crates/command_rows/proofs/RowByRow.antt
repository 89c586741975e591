-- Rows one by one, and one buffer after another.
use Prim.Native.Nat.{ℕ, zero, suc, ◌+◌, ◌-◌, ◌≤◌}
use mathlib.Core.Path.{◌≡◌, sym}
use mathlib.Core.List.{List, [], ◌++◌, append_assoc, append-nil}
use lib.ListN.{length}
use native.Mathlib.Numerals.{add-one}
use native.Mathlib.Omega.{arith}
use Rattle.decimal.specs.Writing.{Written}
use Rattle.decimal.proofs.LeftToRight.{nothing_written, written_then}
use Rattle.command_rules.specs.Describe.{rows_text}
use Rattle.command_rows.specs.Rows.{rows_between}

module _ (line : ℕ → List ℕ) where
  between_none : (from : ℕ) → rows_between line from from ≡ []
  unfolding rows_between rows_text
  between_none from = let e : from - from ≡ 0 = omega arith in rw e

  between_next : (from i : ℕ) → from ≤ i → rows_between line from (i + 1) ≡ rows_between line from i ++ line i
  unfolding rows_between rows_text
  between_next from i h =
      let e : i + 1 - from ≡ suc (i - from) = omega arith in
      let k : from + (i - from) ≡ i = omega arith in
      rw e (rw k)

  rows_more : (m d : ℕ) → rows_text line (m + d) ≡ rows_text line m ++ rows_between line m (m + d)
  unfolding rows_text
  rows_more m zero = let e : m + 0 ≡ m = omega arith in rw (e, between_none m) (sym (append-nil (rows_text line m)))
  rows_more m (suc d) =
      let e : m + suc d ≡ m + d + 1 = omega arith in
      let one : rows_text line (m + d + 1) ≡ rows_text line (m + d) ++ line (m + d) = rw add-one in
      rw (e, between_next m (m + d) (omega arith), one, rows_more m d) (append_assoc (rows_text line m) (rows_between line m (m + d)) (line (m + d)))

  -- all rows are those before m and those from m on
  pub rows_split : (m n : ℕ) → m ≤ n → rows_text line n ≡ rows_text line m ++ rows_between line m n
  rows_split m n h = let e : m + (n - m) ≡ n = omega arith in rw e at (rows_more m (n - m))

  pub rows_begin : (from : ℕ) (entry : List ℕ) → Written (rows_between line from from) 0 0 entry entry
  rows_begin from entry = rw (between_none from) (nothing_written 0 entry)

  pub rows_next : (from i put r : ℕ) {entry out exit : List ℕ} → from ≤ i → Written (rows_between line from i) put 0 entry out → put ≤ length entry
      → Written (line i) r put out exit → Written (rows_between line from (i + 1)) r 0 entry exit
  rows_next from i put r h w k v = rw (between_next from i h) (written_then w v k)
