use borrow.Author.Rules.{rules}
use Rattle.command_answers.proofs.Answers.{counted-put}
use Rattle.command_answers.proofs.put_counted.Goals as goal

pub returns : goal.returns
returns c = search (counted-put, rules)
