-- The lines of a chunk, one by one.
use Prim.Native.Nat.{ℕ, suc, ◌+◌, ◌-◌, ◌≤◌, ◌<◌, min}
use mathlib.Core.Path.{◌≡◌, refl, sym, ap, ◌∙◌}
use mathlib.Core.Bool.{Bool, true, false, cond, ◌&&◌, and-true}
use mathlib.Core.List.{List, [], ◌∷◌}
use lib.ListN.{length, take}
use lib.Seq.{slice}
use native.Mathlib.Omega.{arith}
use Rattle.versions.specs.Versions.{Table}
use Rattle.lines.specs.declared.LineStep.{LineStep}
use Rattle.lines.specs.Steps.{line_left, last_line, next_line, line_after}
use Rattle.decimal.specs.Writing.{Written}
use Rattle.decimal.proofs.LeftToRight.{nothing_written}
use Rattle.line_output.specs.Output.{well_of}
use Rattle.line_output.specs.Pieces.{ended_in, piece_answers, ended_line, ended_answer}
use Rattle.line_output.proofs.Lines.{well_none, well_one, last_some, last_none, ended_none, answered_none, next_left, next_well, next_answers}
use Rattle.command_rules.specs.declared.Query.{Query}
use Rattle.command_rules.specs.Lines.{line_of, line_text, line_well, line_buffer}
use Rattle.command_answers.specs.declared.Put.{Put}
use Rattle.command_answers.specs.Put.{longest_line, PutLine}
use Rattle.command_lines.specs.Pieces.{AnsweredWell, EndedLine, LastLine}

pub and_well : (well : Bool) (p : Put) → well ≡ true → p ≡ record { at = p.at; well = well && p.well }
and_well well p h = rw h

pub not_well : (well : Bool) (p : Put) → well ≡ false → ◌≡◌ {A = Put} (record { at = p.at; well = false }) (record { at = p.at; well = well && p.well })
not_well well p h = rw h

-- a line that has ended, and one that has not
module _ (q : Query) (seconds : Bool) (o n : Table) (ended : Bool) (l : List ℕ) (at : ℕ) (well : Bool) where
  pub ended_put : (p r : Put) {entry exit : List ℕ} → ended ≡ true → PutLine (line_of q seconds o n l) p at entry exit → r ≡ record { at = p.at; well = well && p.well }
      → EndedLine (line_text q seconds o n) (line_well q seconds o n) ended l r at entry exit well
  unfolding ended_answer ended_line
  ended_put p r h w e =
      rw (h, e)
      (record {
        text = w.text;
        still_well = ap (λ (x : Bool). well && x) (w.well ∙ sym (well_one (line_well q seconds o n) l));
        short = w.short;
      })

  pub open_put : (b : List ℕ) → ended ≡ false → EndedLine (line_text q seconds o n) (line_well q seconds o n) ended l (record { at = at; well = well }) at b b well
  unfolding ended_answer ended_line
  open_put b h =
      rw h (record { text = nothing_written at b; still_well = sym (and-true well) ∙ ap (λ (x : Bool). well && x) (sym (well_none (line_well q seconds o n))); short = omega arith })

-- the end of input
some_line : (b : ℕ) (l : List ℕ) → last_line (b ∷ l) ≡ (b ∷ l) ∷ []
unfolding last_line
some_line b l = refl

last_line_lem : (k : ℕ) (line : List ℕ) → 0 < k → k ≤ length line → last_line (take k line) ≡ take k line ∷ []
last_line_lem k [] h l = absurd (omega arith)
last_line_lem k (b ∷ line) h l = let e : k ≡ suc (k - 1) = omega arith in rw e (some_line b (take (k - 1) line))

no_line : last_line [] ≡ []
unfolding last_line
no_line = refl

module _ (q : Query) (seconds : Bool) (o n : Table) (k : ℕ) (line : List ℕ) where
  pub last_put : (r : Put) {entry exit : List ℕ} → 0 < k → k ≤ length line → longest_line ≤ length entry → PutLine (line_of q seconds o n (take k line)) r 0 entry exit
      → LastLine (line_text q seconds o n) (line_well q seconds o n) (take k line) r entry exit
  last_put r h l room w =
      record {
        text = rw (last_some (line_text q seconds o n) k line h l) w.text;
        well = rw (last_line_lem k line h l) (w.well ∙ sym (well_one (line_well q seconds o n) (take k line)));
        fits = omega (arith, w.short);
      }

  pub none_left : (b : List ℕ) → k ≤ 0 → LastLine (line_text q seconds o n) (line_well q seconds o n) (take k line) (record { at = 0; well = true }) b b
  none_left b h =
      let e : k ≡ 0 = omega arith in
      record {
        text = last_none (line_text q seconds o n) k line b h;
        well = rw (e, no_line) (sym (well_none (line_well q seconds o n)));
        fits = omega arith;
      }

-- room
pub held_fits : (held kept : ℕ) (line : List ℕ) → held ≤ kept → kept ≤ length line → length line ≡ line_buffer → held ≤ line_buffer
held_fits held kept line a b e = omega arith

-- the loop over a chunk
module _ (f : List ℕ → List ℕ) (g : List ℕ → Bool) where
  pub begun : (chunk : List ℕ) (at k : ℕ) (line b : List ℕ) → at ≤ length chunk → k ≤ line_buffer → AnsweredWell f g chunk at at (take k line) k line 0 b b true
  begun chunk at k line b h w =
      record { answered = answered_none f line_buffer chunk at k line b h w; all_well = rw (ended_none line_buffer chunk at (take k line)) (sym (well_none g)) }

  -- one step
  module _ (chunk : List ℕ) (at i : ℕ) (l line : List ℕ) (k n : ℕ) (entry out : List ℕ) (well : Bool) (a : AnsweredWell f g chunk at i l k line n entry out well)
      (later : min n 1 + at ≤ i) (size : length line ≡ line_buffer) {step : LineStep} {after : List ℕ} (es : step ≡ next_line chunk i line k) (ea : after ≡ line_after chunk i line k) where
    pub left_then : {m : ℕ} → m ≡ cond step.ended 0 step.kept → take m after ≡ line_left line_buffer l (slice at step.at chunk)
    left_then em = next_left f line_buffer chunk at i l line k n entry out a.answered later size es ea em

    module _ {r : Put} {exit : List ℕ} (e : EndedLine f g step.ended (take step.kept after) r n out exit well) where
      pub answers_then : Written (piece_answers f line_buffer l (slice at step.at chunk)) r.at 0 entry exit
      answers_then = next_answers f line_buffer chunk at i l line k n entry out a.answered later size es ea e.text

      pub well_then : r.well ≡ well_of g (ended_in line_buffer l (slice at step.at chunk))
      well_then =
          e.still_well
          ∙ (ap (λ (x : Bool). x && well_of g (ended_line step.ended (take step.kept after))) a.all_well
          ∙ sym (next_well f line_buffer chunk at i l line k n entry out a.answered later size es ea g))
