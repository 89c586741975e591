use borrow.Author.Rules.{rules}
use Rattle.parse.proofs.Parse.{count_other, count_all}
use Rattle.parse.proofs.count_from.Goals as goal

pub returns-then-at-text : goal.returns-then-at-text
returns-then-at-text c = search (count_other, rules)

pub returns : goal.returns
returns c = search (count_all, rules)
