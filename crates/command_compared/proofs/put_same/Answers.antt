use borrow.Author.Rules.{rules}
use Rattle.command_compared.proofs.Compared.{same_put}
use Rattle.command_compared.proofs.put_same.Goals as goal

pub returns : goal.returns
returns c = search (same_put, rules)
