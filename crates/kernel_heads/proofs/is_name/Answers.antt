use borrow.Author.Rules.{rules}
use Rattle.kernel_heads.proofs.NameBytes.{name_length, name_plus, name_good}
use Rattle.kernel_heads.proofs.is_name.Goals as goal

pub returns-then-not-has_name_length : goal.returns-then-not-has_name_length
returns-then-not-has_name_length c = search (name_length, rules)

pub returns-then-w-ne43 : goal.returns-then-w-ne43
returns-then-w-ne43 c = search (name_good, rules)

pub returns-else-w-ne43 : goal.returns-else-w-ne43
returns-else-w-ne43 c = search (name_plus, rules)
