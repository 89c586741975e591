use Rattle.segments.proofs.Lines.{overtakes_test}
use borrow.Author.Rules.{rules}
use Rattle.segments.proofs.row.overtakes.Goals as goal

pub returns : goal.returns
returns c = search (overtakes_test, rules)
