use Prim.Native.Nat.{◌+◌, ◌-◌, ◌≤◌, min}
use mathlib.Core.Path.{◌≡◌}
use lib.ListN.{length, take}
use Rattle.command_rules.specs.Lines.{line_text, line_well, line_buffer}
use Rattle.command_answers.specs.Put.{longest_line}
use Rattle.succession_rules.specs.OfTwo.{table_of}
use Rattle.command_lines.specs.Pieces.{AnsweredWell}
use Rattle.command_lines.proofs.answer_chunk.Given as goal

-- where anything is put the loop has gone on
abbrev pub invariant-loop-i : goal.invariant-loop-i
invariant-loop-i l = AnsweredWell
    (line_text l.query l.seconds (table_of l.older l.older_starts l.older_ends l.older_counts l.older_times l.older_rates) (table_of l.newer l.newer_starts l.newer_ends l.newer_counts l.newer_times l.newer_rates))
    (line_well l.query l.seconds (table_of l.older l.older_starts l.older_ends l.older_counts l.older_times l.older_rates) (table_of l.newer l.newer_starts l.newer_ends l.newer_counts l.newer_times l.newer_rates))
    l.chunk l.at l.i (take l.kept l.initial.line) l.held l.line l.put l.initial.out l.out l.well
    × (min l.put 1 + l.at ≤ l.i)
    × (length l.line ≡ line_buffer)
    × (length l.out ≡ length l.initial.out)
    × (l.last + longest_line ≤ length l.out)

abbrev pub decreases-loop-i : goal.decreases-loop-i
decreases-loop-i l = length l.chunk - l.i
