use borrow.Author.Rules.{rules}
use Rattle.base.proofs.Halving.{greatest_none, greatest_some}
use Rattle.segment_search.proofs.last_of.Goals as goal

pub returns-then-begun-eq0 : goal.returns-then-begun-eq0
returns-then-begun-eq0 c = search (greatest_none, rules)

pub returns : goal.returns
returns c = search (greatest_some, rules)
