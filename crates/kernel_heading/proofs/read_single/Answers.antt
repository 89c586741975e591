use borrow.Author.Rules.{rules}
use Rattle.kernel_heading.proofs.Judging.{single_absent, single_given}
use Rattle.kernel_heading.proofs.read_single.Goals as goal

pub returns-then-at-eq0 : goal.returns-then-at-eq0
returns-then-at-eq0 c = search (single_absent, rules)

pub returns-else-at-eq0 : goal.returns-else-at-eq0
returns-else-at-eq0 c = search (single_given, rules)
