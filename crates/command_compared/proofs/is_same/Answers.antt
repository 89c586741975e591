use borrow.Author.Rules.{rules}
use Rattle.command_compared.proofs.Compared.{other_time, by_count}
use Rattle.command_compared.proofs.is_same.Goals as goal

pub returns-then-a-b : goal.returns-then-a-b
returns-then-a-b c = search (other_time, rules)

pub returns : goal.returns
returns c = search (by_count, rules)
