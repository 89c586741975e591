use borrow.Author.Rules.{rules}
use Rattle.command_answers.proofs.Answers.{fields-put}
use Rattle.command_answers.proofs.put_fields.Goals as goal

pub returns : goal.returns
returns c = search (fields-put, rules)
