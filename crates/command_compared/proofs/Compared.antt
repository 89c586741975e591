-- The lines of a comparison put together of their fields.
use Rattle.rules.specs.declared.refusal.Refusal.{Refusal}
use Prim.Native.Nat.{ℕ, ◌+◌, ◌≤◌}
use mathlib.Core.Path.{◌≡◌, refl, sym, ap, ◌∙◌}
use mathlib.Core.Bool.{Bool, true, false, ◌&&◌, and-true, and-false}
use mathlib.Core.List.{List, [], ◌∷◌, ◌++◌, append_assoc}
use lib.Dec.{eqb}
use lib.ListN.{length}
use mir.Syntax.{w64}
use mir.Val.{SFits, to_z, of_z}
use mir.Facts.{to_z-of_z}
use borrow.Author.Tests.{eq-eqb, ne_eqb}
use native.Mathlib.Omega.{arith}
use Rattle.rules.specs.declared.TimedStamp.{TimedStamp}
use Rattle.rules.specs.Answer.{answer, refused, Numbered, as_numbered, number_of}
use Rattle.rules.specs.Examples.{bytes}
use Rattle.versions.specs.Equal.{eq_z}
use Rattle.versions.proofs.Equal.{eq_eq_z, ne_eq_z}
use Rattle.decimal.specs.Writing.{Written}
use Rattle.decimal.proofs.LeftToRight.{written_same_length, written_then}
use Rattle.command_rules.specs.Fields.{difference_text, refusal_text}
use Rattle.command_rules.specs.Lines.{both_fields, both_line, refused_line, compare_line}
use Rattle.command_answers.specs.declared.Put.{Put}
use Rattle.command_answers.specs.Put.{longest_line, PutLine}

-- whether two answers are the same; a time is its bits in the code
module _ (a b : TimedStamp) where
  pub other_time : (of_z w64 a.time ≡ of_z w64 b.time → ⊥) → false ≡ (eqb a.count b.count && eq_z a.time b.time)
  other_time d = rw (ne_eq_z a.time b.time (λ e. d (ap (of_z w64) e))) (sym (and-false (eqb a.count b.count)))

  pub by_count : SFits w64 a.time → SFits w64 b.time → of_z w64 a.time ≡ of_z w64 b.time → eqb a.count b.count ≡ (eqb a.count b.count && eq_z a.time b.time)
  by_count f g e =
      let t : a.time ≡ b.time = sym (to_z-of_z f) ∙ ap (to_z w64) e ∙ to_z-of_z g in
      rw (eq_eq_z a.time b.time t) (sym (and-true (eqb a.count b.count)))

-- two fields one behind the other
module _ (a b : List ℕ) (at mid end : ℕ) {entry first exit : List ℕ} where
  two : Written (a ++ (9 ∷ [])) mid at entry first → Written b end mid first exit → mid ≤ length entry → Written (a ++ (9 ∷ b)) end at entry exit
  two w v h = rw (append_assoc a (9 ∷ []) b) at (written_then w v h)

module _ (seconds : Bool) (at : ℕ) {entry : List ℕ} (room : at + longest_line ≤ length entry) where
  pub same_put : (a : TimedStamp) (place next : ℕ) {first exit : List ℕ} → Written (115 ∷ 97 ∷ 109 ∷ 101 ∷ 9 ∷ []) place at entry first
      → Written (both_fields seconds a ++ (10 ∷ [])) next place first exit → next ≤ place + 56 → PutLine (both_line seconds a a true) (record { at = next; well = true }) at entry exit
  unfolding both_line bytes
  same_put a place next w v l = record { text = written_then w v (omega (arith, w.ends)); well = refl; short = omega (arith, w.ends) }

  pub differ_put : (a b : TimedStamp) (place second third next : ℕ) (f : SFits w64 a.time) (g : SFits w64 b.time) {first mid later exit : List ℕ} → Written (100 ∷ 105 ∷ 102 ∷ 102 ∷ 101 ∷ 114 ∷ 9 ∷ []) place at entry first
      → Written (both_fields seconds a ++ (9 ∷ [])) second place first mid → second ≤ place + 56
      → Written (both_fields seconds b ++ (9 ∷ [])) third second mid later → third ≤ second + 56
      → Written (difference_text seconds (to_z w64 (of_z w64 a.time)) (to_z w64 (of_z w64 b.time)) ++ (10 ∷ [])) next third later exit → next ≤ third + 35
      → PutLine (both_line seconds a b false) (record { at = next; well = false }) at entry exit
  unfolding both_line bytes
  differ_put a b place second third next f g w v l x m d n =
      let one = written_same_length w (omega (arith, w.ends)) in
      let two-long = written_same_length v (omega (arith, w.ends, one)) in
      let tail = two (both_fields seconds b) _ second third next x (rw (to_z-of_z f, to_z-of_z g) at d) (omega (arith, w.ends, one, two-long)) in
      let rest = two (both_fields seconds a) _ place second next v tail (omega (arith, w.ends, one)) in
      record { text = written_then w rest (omega (arith, w.ends)); well = refl; short = omega (arith, w.ends) }

  pub older_put : (j : Numbered) (b : TimedStamp) (place second next : ℕ) {first mid exit : List ℕ} → Written (111 ∷ 108 ∷ 100 ∷ 101 ∷ 114 ∷ 32 ∷ 114 ∷ 101 ∷ 102 ∷ 117 ∷ 115 ∷ 101 ∷ 115 ∷ 9 ∷ []) place at entry first
      → Written (refusal_text j ++ (9 ∷ [])) second place first mid → second ≤ place + 84 → Written (both_fields seconds b ++ (10 ∷ [])) next second mid exit → next ≤ second + 56
      → PutLine (compare_line seconds (refused j) (answer b)) (record { at = next; well = false }) at entry exit
  unfolding compare_line bytes
  older_put j b place second next w v l x m =
      let one = written_same_length w (omega (arith, w.ends)) in
      let rest = two (refusal_text j) _ place second next v x (omega (arith, w.ends, one)) in
      record { text = written_then w rest (omega (arith, w.ends)); well = refl; short = omega (arith, w.ends) }

  pub newer_put : (k : Numbered) (a : TimedStamp) (place second next : ℕ) {first mid exit : List ℕ} → Written (110 ∷ 101 ∷ 119 ∷ 101 ∷ 114 ∷ 32 ∷ 114 ∷ 101 ∷ 102 ∷ 117 ∷ 115 ∷ 101 ∷ 115 ∷ 9 ∷ []) place at entry first
      → Written (refusal_text k ++ (9 ∷ [])) second place first mid → second ≤ place + 84 → Written (both_fields seconds a ++ (10 ∷ [])) next second mid exit → next ≤ second + 56
      → PutLine (compare_line seconds (answer a) (refused k)) (record { at = next; well = false }) at entry exit
  unfolding compare_line bytes
  newer_put k a place second next w v l x m =
      let one = written_same_length w (omega (arith, w.ends)) in
      let rest = two (refusal_text k) _ place second next v x (omega (arith, w.ends, one)) in
      record { text = written_then w rest (omega (arith, w.ends)); well = refl; short = omega (arith, w.ends) }

module _ (at : ℕ) {entry : List ℕ} (room : at + longest_line ≤ length entry) where
  pub one_put : (j : Numbered) (place next : ℕ) {first exit : List ℕ} → Written (115 ∷ 97 ∷ 109 ∷ 101 ∷ 9 ∷ 114 ∷ 101 ∷ 102 ∷ 117 ∷ 115 ∷ 101 ∷ 100 ∷ 9 ∷ []) place at entry first → Written (refusal_text j ++ (10 ∷ [])) next place first exit → next ≤ place + 84
      → PutLine (refused_line j j true) (record { at = next; well = false }) at entry exit
  unfolding refused_line bytes
  one_put j place next w v l = record { text = written_then w v (omega (arith, w.ends)); well = refl; short = omega (arith, w.ends) }

  pub two_put : (j k : Numbered) (place second next : ℕ) {first mid exit : List ℕ} → Written (114 ∷ 101 ∷ 102 ∷ 117 ∷ 115 ∷ 101 ∷ 100 ∷ 9 ∷ []) place at entry first
      → Written (refusal_text j ++ (9 ∷ [])) second place first mid → second ≤ place + 84 → Written (refusal_text k ++ (10 ∷ [])) next second mid exit → next ≤ second + 84
      → PutLine (refused_line j k false) (record { at = next; well = false }) at entry exit
  unfolding refused_line bytes
  two_put j k place second next w v l x m =
      let one = written_same_length w (omega (arith, w.ends)) in
      let rest = two (refusal_text j) _ place second next v x (omega (arith, w.ends, one)) in
      record { text = written_then w rest (omega (arith, w.ends)); well = refl; short = omega (arith, w.ends) }

module _ {r : Put} {at : ℕ} {entry exit : List ℕ} where
  -- by whether both refuse with one number
  pub one_number : (j k : Refusal) (m n : ℕ) → m ≡ number_of j → n ≡ number_of k → m ≡ n → PutLine (refused_line (as_numbered j) (as_numbered j) true) r at entry exit
      → PutLine (refused_line (as_numbered j) (as_numbered k) (eqb (number_of j) (number_of k))) r at entry exit
  unfolding refused_line
  one_number j k m n f g e w = rw (eq-eqb (number_of j) (number_of k) (sym f ∙ e ∙ g)) w

  pub two_numbers : (j k : Refusal) (m n : ℕ) → m ≡ number_of j → n ≡ number_of k → (m ≡ n → ⊥) → PutLine (refused_line (as_numbered j) (as_numbered k) false) r at entry exit
      → PutLine (refused_line (as_numbered j) (as_numbered k) (eqb (number_of j) (number_of k))) r at entry exit
  two_numbers j k m n f g d w = rw (ne_eqb (number_of j) (number_of k) (λ e. d (f ∙ e ∙ sym g))) w

  -- by whether both answer alike
  module _ (seconds : Bool) (a b : TimedStamp) (t : Bool) (e : t ≡ (eqb a.count b.count && eq_z a.time b.time)) where
    pub alike : t ≡ true → PutLine (both_line seconds a a true) r at entry exit → PutLine (compare_line seconds (answer a) (answer b)) r at entry exit
    unfolding compare_line both_line
    alike h w = rw (← e, h) w

    pub unlike : t ≡ false → PutLine (both_line seconds a b false) r at entry exit → PutLine (compare_line seconds (answer a) (answer b)) r at entry exit
    unfolding compare_line
    unlike h w = rw (← e, h) w
