-- A line's answer, put into a buffer, and whether it is answered well.
use Rattle.std.specs.Prelude.{ℕ, ◌+◌, ◌≤◌, ◌≡◌, List}
use Rattle.decimal.specs.Writing.{Written}
use Rattle.command_rules.specs.Lines.{Line}
use Rattle.command_answers.specs.declared.Put.{Put}

-- the most bytes of a line, byte 10 included
abbrev pub longest_line : ℕ
longest_line = 256

-- the line stands from index at on, and it is known whether it is answered well
pub record PutLine (line : Line) (r : Put) (at : ℕ) (entry exit : List ℕ) : Type 0 where
  pub text : Written line.text r.at at entry exit
  pub well : r.well ≡ line.well
  pub short : r.at ≤ at + longest_line
