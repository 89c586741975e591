use Rattle.kernel_walk.proofs.Walking.{plain_is}
use borrow.Author.Rules.{rules}
use Rattle.kernel_walk.proofs.is_plain.Goals as goal

pub returns : goal.returns
returns c = search (plain_is, rules)
