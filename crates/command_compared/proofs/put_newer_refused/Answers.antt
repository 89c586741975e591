use borrow.Author.Rules.{rules}
use Rattle.command_compared.proofs.Compared.{newer_put}
use Rattle.command_compared.proofs.put_newer_refused.Goals as goal

pub returns : goal.returns
returns c = search (newer_put, rules)
