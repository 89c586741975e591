use borrow.Author.Rules.{rules}
use Rattle.lines.proofs.Keeping.{kept_part}
use Rattle.lines.proofs.keep.Goals as goal

pub returns-clause-value : goal.returns-clause-value
returns-clause-value c = rw (← c.min-n.ensures)

pub returns-clause-line_after : goal.returns-clause-line_after
returns-clause-line_after c = kept_part _ _ _ _ _ c.min-n.ensures c.copy_from_slice.ensures.after
