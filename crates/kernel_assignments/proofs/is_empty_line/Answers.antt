use Rattle.kernel_assignments.proofs.Plain.{empty_line}
use borrow.Author.Rules.{rules}
use Rattle.kernel_assignments.proofs.is_empty_line.Goals as goal

pub returns : goal.returns
returns c = search (empty_line, rules)
