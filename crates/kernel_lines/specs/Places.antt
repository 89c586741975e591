-- A line by its places in the text: its start, the end of what is kept of it, and where the next line begins.
use Rattle.std.specs.Prelude.{ℕ, ◌+◌, List, drop}
use Rattle.lines.specs.Steps.{line_in, taken_in}
use Rattle.kernel_rules.specs.Lines.{kept_of}
use Rattle.kernel_lines.specs.declared.Line.{Line}

unfoldable pub line_at : List ℕ → ℕ → Line
line_at s at = record { start = at; end = at + kept_of (line_in (drop at s)); next = at + taken_in (drop at s) }
