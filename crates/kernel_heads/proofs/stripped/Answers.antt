use Rattle.kernel_heads.proofs.Heads.{stripped_empty, stripped_part}
use borrow.Author.Rules.{rules}
use Rattle.kernel_heads.proofs.stripped.Goals as goal

pub returns-then-end-start : goal.returns-then-end-start
returns-then-end-start c = search (stripped_empty, rules)

pub returns : goal.returns
returns c = search (stripped_part, rules)
