use borrow.Author.Rules.{rules}
use Rattle.command_compared.proofs.Compared.{one_put}
use Rattle.command_compared.proofs.put_one_number.Goals as goal

pub returns : goal.returns
returns c = search (one_put, rules)
