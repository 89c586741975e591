use borrow.Author.Rules.{rules}
use Rattle.command_answers.proofs.Answers.{text-put}
use Rattle.command_answers.proofs.put_text.Goals as goal

pub returns : goal.returns
returns c = search (text-put, rules)
