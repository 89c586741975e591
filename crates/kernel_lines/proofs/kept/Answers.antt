use Rattle.kernel_lines.proofs.Trimming.{kept_is}
use borrow.Author.Rules.{rules}
use Rattle.kernel_lines.proofs.kept.Goals as goal

pub returns-clause-value : goal.returns-clause-value
returns-clause-value c = search (kept_is, rules)
