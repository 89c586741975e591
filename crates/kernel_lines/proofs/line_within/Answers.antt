use Rattle.kernel_lines.proofs.Places.{end_above, end_within, next_above, next_within}
use borrow.Author.Rules.{rules}
use Rattle.kernel_lines.proofs.line_within.Goals as goal

pub returns-clause-at_le_end : goal.returns-clause-at_le_end
returns-clause-at_le_end c = (search (end_above, rules), search (end_within, rules), search (next_above, rules), search (next_within, rules))
