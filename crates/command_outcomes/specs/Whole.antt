-- "the output of a whole input is that of its lines in order": wherever the input is cut, the pieces that `command_lines` puts make the whole
-- output, and whether all lines are answered well is known of the whole.
use Rattle.std.specs.Prelude.{Bool}
use Rattle.versions.specs.Versions.{Table, Accepted}
use Rattle.line_output.specs.Pieces.{WholeOutput, WholeWell}
use Rattle.command_rules.specs.declared.Query.{Query}
use Rattle.command_rules.specs.Lines.{line_text, line_well, line_buffer}

pub record WholeInput (q : Query) (seconds : Bool) (older newer : Table) : Type 0 where
  pub output : WholeOutput (line_text q seconds older newer) line_buffer
  pub well : WholeWell (line_well q seconds older newer) line_buffer

abbrev pub WholeOfAccepted : Type 0
WholeOfAccepted = (q : Query) (seconds : Bool) (older newer : Table) → Accepted older → Accepted newer → WholeInput q seconds older newer
