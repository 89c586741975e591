use borrow.Author.Rules.{rules}
use Rattle.command_compared.proofs.Compared.{differ_put}
use Rattle.command_compared.proofs.put_differ.Goals as goal

pub returns : goal.returns
returns c = search (differ_put, rules)
