use borrow.Author.Rules.{rules}
use Rattle.command_compared.proofs.Compared.{two_put}
use Rattle.command_compared.proofs.put_two_numbers.Goals as goal

pub returns : goal.returns
returns c = search (two_put, rules)
