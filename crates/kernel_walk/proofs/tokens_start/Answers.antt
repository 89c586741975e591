use Rattle.kernel_walk.proofs.Walking.{start_marker, start_line}
use borrow.Author.Rules.{rules}
use Rattle.kernel_walk.proofs.tokens_start.Goals as goal

pub returns-then-is_marker-clause-value : goal.returns-then-is_marker-clause-value
returns-then-is_marker-clause-value c = search (start_marker, rules)

pub returns-clause-value : goal.returns-clause-value
returns-clause-value c = search (start_line, rules)
