use Rattle.doubles.proofs.Tests.{finite_in, finite_out}
use borrow.Author.Rules.{rules}
use Rattle.doubles.proofs.finite.Goals as goal

pub returns-then-x : goal.returns-then-x
returns-then-x c = search (finite_in, rules)

pub returns-else-x : goal.returns-else-x
returns-else-x c = search (finite_out, rules)
