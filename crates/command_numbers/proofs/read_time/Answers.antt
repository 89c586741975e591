use borrow.Author.Rules.{rules}
use Rattle.command_numbers.proofs.Times.{by_seconds, by_nanoseconds}
use Rattle.command_numbers.proofs.read_time.Goals as goal

pub returns-then-seconds : goal.returns-then-seconds
returns-then-seconds c = search (by_seconds, rules)

pub returns : goal.returns
returns c = search (by_nanoseconds, rules)
