use Rattle.segments.proofs.Lines.{flat_line, not_late, line_test}
use borrow.Author.Rules.{rules}
use Rattle.segments.proofs.row.line_ok.Goals as goal

pub elapsed-requires : goal.elapsed-requires
elapsed-requires c = search (not_late, rules)

pub returns-then-end-row : goal.returns-then-end-row
returns-then-end-row c = search (flat_line, rules)

pub returns-else-end-row : goal.returns-else-end-row
returns-else-end-row c = search (line_test, rules)
