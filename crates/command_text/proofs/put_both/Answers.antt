use borrow.Author.Rules.{rules}
use Rattle.command_text.proofs.Texts.{both_put}
use Rattle.command_text.proofs.put_both.Goals as goal

pub returns-clause-written : goal.returns-clause-written
returns-clause-written c = search (both_put, rules)
