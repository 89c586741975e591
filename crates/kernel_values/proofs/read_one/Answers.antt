use Rattle.kernel_values.proofs.Filling.{one_none, one_some}
use borrow.Author.Rules.{rules}
use Rattle.kernel_values.proofs.read_one.Goals as goal

pub returns-then-not-v : goal.returns-then-not-v
returns-then-not-v c = search (one_none, rules)

pub returns : goal.returns
returns c = search (one_some, rules)
