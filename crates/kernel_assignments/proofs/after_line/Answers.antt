use Rattle.kernel_assignments.proofs.Stages.{line_blank, line_other, line_data, line_text, line_plain}
use borrow.Author.Rules.{rules}
use Rattle.kernel_assignments.proofs.after_line.Goals as goal

pub returns-then-l-start : goal.returns-then-l-start
returns-then-l-start c = search (line_blank, rules)

pub returns-then-l-start-ne92 : goal.returns-then-l-start-ne92
returns-then-l-start-ne92 c = search (line_other, rules)

pub returns-then-is_marker : goal.returns-then-is_marker
returns-then-is_marker c = search (line_data, rules)

pub returns-then-is_marker-2 : goal.returns-then-is_marker-2
returns-then-is_marker-2 c = search (line_text, rules)

pub returns : goal.returns
returns c = search (line_plain, rules)
