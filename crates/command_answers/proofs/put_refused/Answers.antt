use borrow.Author.Rules.{rules}
use Rattle.command_answers.proofs.Answers.{refused-put}
use Rattle.command_answers.proofs.put_refused.Goals as goal

pub returns : goal.returns
returns c = search (refused-put, rules)
