use borrow.Author.Rules.{rules}
use Rattle.command_compared.proofs.Compared.{alike, unlike}
use Rattle.command_compared.proofs.put_answers.Goals as goal

pub returns-then-is_same : goal.returns-then-is_same
returns-then-is_same c = search (alike, rules)

pub returns : goal.returns
returns c = search (unlike, rules)
