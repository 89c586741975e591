-- The lines of segments, as the code puts them.
use Prim.Native.Nat.{ℕ, ◌+◌, ◌≤◌, ◌<◌}
use mathlib.Core.Path.{◌≡◌, sym, ◌∙◌}
use mathlib.Core.Bool.{Bool, true, false}
use mathlib.Core.List.{List, [], ◌∷◌, ◌++◌, append_assoc}
use lib.IntN.{ℤ, pos}
use lib.ListN.{length, get_or}
use lib.Signed.{lt_z}
use mir.Syntax.{w64}
use mir.Val.{SFits, to_z, of_z}
use mir.Facts.{to_z-of_z}
use borrow.Author.Tests.{lt-ltb, le-ltb}
use native.Mathlib.Omega.{arith}
use Rattle.base.specs.Signed.{elapsed}
use Rattle.rules.specs.declared.Segment.{Segment}
use Rattle.rules.specs.Segments.{Segments, segments, row_of}
use Rattle.rules.specs.Examples.{bytes}
use Rattle.decimal.specs.Writing.{Written}
use Rattle.decimal.proofs.LeftToRight.{written_then}
use Rattle.number_text.specs.Numbers.{decimal_of, longest_number}
use Rattle.command_rules.specs.Fields.{amount_text, time_text, rate_text, last_field}
use Rattle.command_rules.specs.Describe.{reached, jump_text, segment_line}
use Rattle.command_text.specs.Longest.{longest_field}
use Rattle.command_ends.proofs.Parts.{written_three}
use Rattle.command_rows.specs.Rows.{rows_between}
use Rattle.command_rows.proofs.RowByRow.{rows_next}
use Rattle.command_segments.specs.SegmentRow.{segment_front, longest_front, longest_rest, longest_segment}

-- up to the rate
module _ (seconds : Bool) (number : ℕ) (row : Segment) (f : SFits w64 row.time) (at a b r : ℕ) {entry first second exit : List ℕ} (room : at + longest_front ≤ length entry)
    (w : Written ((115 ∷ 101 ∷ 103 ∷ 109 ∷ 101 ∷ 110 ∷ 116 ∷ 9 ∷ []) ++ (decimal_of number ++ (9 ∷ []))) a at entry first) (h : a ≤ at + 8 + longest_number + 1)
    (v : Written (decimal_of row.count ++ (9 ∷ [])) b a first second) (k : b ≤ a + longest_number + 1)
    (z : Written (time_text seconds (to_z w64 (of_z w64 row.time)) ++ (9 ∷ [])) r b second exit) where
  pub front_put : Written (segment_front seconds number row) r at entry exit
  unfolding segment_front bytes
  front_put =
      rw (append_assoc (decimal_of number) (9 ∷ []) ((decimal_of row.count ++ (9 ∷ [])) ++ (time_text seconds row.time ++ (9 ∷ []))), append_assoc (decimal_of row.count) (9 ∷ []) (time_text seconds row.time ++ (9 ∷ [])))
      at (written_three w v (rw (to_z-of_z f) at z) (omega arith) (omega arith))

-- the rest of the line: a gap, a step back, neither
module _ (seconds : Bool) (rate : ℕ) (line next : ℤ) (f : SFits w64 line) (g : SFits w64 next) where
  module _ (at place named r d : ℕ) {entry first second exit : List ℕ} (room : at + longest_rest ≤ length entry)
      (w : Written (rate_text seconds rate ++ (9 ∷ [])) place at entry first) (h : place ≤ at + longest_field) (v : Written (amount_text seconds d ++ (10 ∷ [])) r named second exit) where
    pub gap_put : lt_z (to_z w64 (of_z w64 line)) (to_z w64 (of_z w64 next)) ≡ true → d ≡ elapsed (to_z w64 (of_z w64 line)) (to_z w64 (of_z w64 next))
        → Written (103 ∷ 97 ∷ 112 ∷ 9 ∷ []) named place first second → Written (rate_text seconds rate ++ last_field (jump_text seconds line next)) r at entry exit
    unfolding jump_text bytes
    gap_put k e n =
        let same : elapsed line next ≡ d = sym (e ∙ rw (to_z-of_z f, to_z-of_z g)) in
        let later : lt_z line next ≡ true = rw (to_z-of_z f, to_z-of_z g) at k in
        rw (later, same) (rw (append_assoc (rate_text seconds rate) (9 ∷ []) ((103 ∷ 97 ∷ 112 ∷ 9 ∷ []) ++ (amount_text seconds d ++ (10 ∷ [])))) at (written_three w n v (omega arith) (omega (arith, n.ends))))

    pub back_put : lt_z (to_z w64 (of_z w64 line)) (to_z w64 (of_z w64 next)) ≡ false → lt_z (to_z w64 (of_z w64 next)) (to_z w64 (of_z w64 line)) ≡ true → d ≡ elapsed (to_z w64 (of_z w64 next)) (to_z w64 (of_z w64 line))
        → Written (98 ∷ 97 ∷ 99 ∷ 107 ∷ 9 ∷ []) named place first second → Written (rate_text seconds rate ++ last_field (jump_text seconds line next)) r at entry exit
    unfolding jump_text bytes
    back_put k m e n =
        let same : elapsed next line ≡ d = sym (e ∙ rw (to_z-of_z f, to_z-of_z g)) in
        let not_later : lt_z line next ≡ false = rw (to_z-of_z f, to_z-of_z g) at k in
        let earlier : lt_z next line ≡ true = rw (to_z-of_z f, to_z-of_z g) at m in
        rw (not_later, earlier, same) (rw (append_assoc (rate_text seconds rate) (9 ∷ []) ((98 ∷ 97 ∷ 99 ∷ 107 ∷ 9 ∷ []) ++ (amount_text seconds d ++ (10 ∷ [])))) at (written_three w n v (omega arith) (omega (arith, n.ends))))

  pub neither_put : (at r : ℕ) {entry exit : List ℕ} → lt_z (to_z w64 (of_z w64 line)) (to_z w64 (of_z w64 next)) ≡ false → lt_z (to_z w64 (of_z w64 next)) (to_z w64 (of_z w64 line)) ≡ false
      → Written (rate_text seconds rate ++ (10 ∷ [])) r at entry exit → Written (rate_text seconds rate ++ last_field (jump_text seconds line next)) r at entry exit
  unfolding jump_text
  neither_put at r k m w =
      let not_later : lt_z line next ≡ false = rw (to_z-of_z f, to_z-of_z g) at k in
      let not_earlier : lt_z next line ≡ false = rw (to_z-of_z f, to_z-of_z g) at m in
      rw (not_later, not_earlier) w

-- the whole line
front_join : (seconds : Bool) (number : ℕ) (row : Segment) (rest : List ℕ)
    → segment_front seconds number row ++ rest ≡ bytes "segment" ++ (9 ∷ (decimal_of number ++ (9 ∷ (decimal_of row.count ++ (9 ∷ (time_text seconds row.time ++ (9 ∷ rest)))))))
unfolding segment_front bytes
front_join seconds number row rest =
    rw (append_assoc (decimal_of number) (9 ∷ (decimal_of row.count ++ (9 ∷ (time_text seconds row.time ++ (9 ∷ []))))) rest, append_assoc (decimal_of row.count) (9 ∷ (time_text seconds row.time ++ (9 ∷ []))) rest, append_assoc (time_text seconds row.time) (9 ∷ []) rest)

module _ (seconds : Bool) (unit : ℕ) (cs : List ℕ) (ts : List ℤ) (rs : List ℕ) (i at place r : ℕ) {entry out exit : List ℕ} (row : Segment) (there : row ≡ row_of (segments cs ts rs) i) (room : at + longest_segment ≤ length entry)
    (w : Written (segment_front seconds i row) place at entry out) (h : place ≤ at + longest_front) where
  pub last_segment : length cs ≤ i + 1 → Written (rate_text seconds row.rate ++ (10 ∷ [])) r place out exit → Written (segment_line seconds unit (segments cs ts rs) i) r at entry exit
  unfolding segment_line
  last_segment k v = rw (le-ltb (i + 1) (length cs) k) (rw (there, front_join seconds i (row_of (segments cs ts rs) i) (rate_text seconds (row_of (segments cs ts rs) i).rate ++ (10 ∷ []))) at (written_then w v (omega arith)))

  pub inner_segment : (line next : ℤ) → i + 1 < length cs → SFits w64 line → SFits w64 next → line ≡ reached unit (segments cs ts rs) i → next ≡ get_or ts (i + 1) (pos 0)
      → Written (rate_text seconds row.rate ++ last_field (jump_text seconds (to_z w64 (of_z w64 line)) (to_z w64 (of_z w64 next)))) r place out exit → Written (segment_line seconds unit (segments cs ts rs) i) r at entry exit
  unfolding segment_line
  inner_segment line next k f g e q v =
      let jump = jump_text seconds (reached unit (segments cs ts rs) i) (get_or ts (i + 1) (pos 0)) in
      rw (lt-ltb (i + 1) (length cs) k)
      (rw (there, front_join seconds i (row_of (segments cs ts rs) i) (rate_text seconds (row_of (segments cs ts rs) i).rate ++ last_field jump)) at (written_then w (rw (to_z-of_z f, to_z-of_z g, e, q) at v) (omega arith)))

-- the segments one by one
pub segment_next : (seconds : Bool) (unit : ℕ) (g : Segments) (from i put r : ℕ) {entry out exit : List ℕ} → Written (rows_between (segment_line seconds unit g) from i) put 0 entry out
    → Written (segment_line seconds unit g i) r put out exit → from ≤ i → put ≤ length entry → Written (rows_between (segment_line seconds unit g) from (i + 1)) r 0 entry exit
segment_next seconds unit g from i put r w v h l = rows_next (segment_line seconds unit g) from i put r h w l v
