use Rattle.kernel_walk.proofs.Walking.{between_gap, between_comma}
use borrow.Author.Rules.{rules}
use Rattle.kernel_walk.proofs.is_between.Goals as goal

pub returns-then-is_gap : goal.returns-then-is_gap
returns-then-is_gap c = search (between_gap, rules)

pub returns : goal.returns
returns c = search (between_comma, rules)
