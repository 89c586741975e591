use Rattle.doubles.proofs.Tests.{rate_in, rate_out}
use borrow.Author.Rules.{rules}
use Rattle.doubles.proofs.rate_ok.Goals as goal

pub returns-then-segment : goal.returns-then-segment
returns-then-segment c = search (rate_in, rules)

pub returns-else-segment : goal.returns-else-segment
returns-else-segment c = search (rate_out, rules)
