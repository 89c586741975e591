use Rattle.kernel_heads.proofs.Heads.{plus_some, named_plus, named_equals}
use borrow.Author.Rules.{rules}
use Rattle.kernel_heads.proofs.name_in.Goals as goal

pub overflow_sub-equals : goal.overflow_sub-equals
overflow_sub-equals c = search (plus_some, rules)

pub returns-then-is_plus : goal.returns-then-is_plus
returns-then-is_plus c = search (named_plus, rules)

pub returns : goal.returns
returns c = search (named_equals, rules)
