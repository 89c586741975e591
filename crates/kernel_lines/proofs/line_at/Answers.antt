use Rattle.kernel_lines.proofs.Places.{line_none, line_is}
use borrow.Author.Rules.{rules}
use Rattle.kernel_lines.proofs.line_at.Goals as goal

pub returns-then-text-at : goal.returns-then-text-at
returns-then-text-at c = search (line_none, rules)

pub returns : goal.returns
returns c = search (line_is, rules)
