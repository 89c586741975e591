-- The output as the input comes in: f is what is printed of a line, g whether it is answered well.
use Rattle.std.specs.Prelude.{ℕ, ◌+◌, ◌≤◌, ◌≡◌, Bool, ◌&&◌, List, length}
use Rattle.std.proofs.Math.Seq.{slice}
use Rattle.lines.specs.Steps.{last_line}
use Rattle.decimal.specs.Writing.{Written}
use Rattle.line_output.specs.Output.{well_of}
use Rattle.line_output.specs.Pieces.{ended_in, ended_line, ended_answer, last_answer, Answered}
use Rattle.command_rules.specs.Lines.{line_buffer}
use Rattle.command_answers.specs.declared.Put.{Put}
use Rattle.command_answers.specs.Put.{longest_line}

module _ (f : List ℕ → List ℕ) (g : List ℕ → Bool) where
  -- the answers of the lines that ended in the chunk's bytes from index at to index i, and whether all are well
  pub record AnsweredWell (chunk : List ℕ) (at i : ℕ) (l : List ℕ) (k : ℕ) (line : List ℕ) (n : ℕ) (entry exit : List ℕ) (well : Bool) : Type 0 where
    pub answered : Answered f line_buffer chunk at i l k line n entry exit
    pub all_well : well ≡ well_of g (ended_in line_buffer l (slice at i chunk))

  -- a line's answer, where it has ended; well is what was known before
  pub record EndedLine (ended : Bool) (l : List ℕ) (r : Put) (at : ℕ) (entry exit : List ℕ) (well : Bool) : Type 0 where
    pub text : Written (ended_answer f ended l) r.at at entry exit
    pub still_well : r.well ≡ (well && well_of g (ended_line ended l))
    pub short : r.at ≤ at + longest_line

  -- the answer of what is left at the end of input
  pub record LastLine (l : List ℕ) (r : Put) (entry exit : List ℕ) : Type 0 where
    pub text : Written (last_answer f l) r.at 0 entry exit
    pub well : r.well ≡ well_of g (last_line l)
    pub fits : r.at ≤ length entry
