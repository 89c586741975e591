use borrow.Author.Rules.{rules}
use Rattle.command_compared.proofs.Compared.{older_put}
use Rattle.command_compared.proofs.put_older_refused.Goals as goal

pub returns : goal.returns
returns c = search (older_put, rules)
