use borrow.Author.Rules.{rules}
use Rattle.command_lines.proofs.Pieces.{begun, held_fits, left_then, answers_then, well_then}
use Rattle.command_lines.proofs.answer_chunk.Goals as goal

pub loop-i-init : goal.loop-i-init
loop-i-init c = (search (begun, rules), search rules, search rules, search rules, search rules)

pub loop-i-preserved : goal.loop-i-preserved
loop-i-preserved c = (
  record {
    answered = record { within = search rules; kept = search (held_fits, rules); room_left = search rules; left = search (left_then, rules); answers = search (answers_then, rules) };
    all_well = search (well_then, rules);
  },
  search rules,
  search rules,
  search rules,
  search rules,
)
