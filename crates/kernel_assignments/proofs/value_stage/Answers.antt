use Rattle.kernel_assignments.proofs.Values.{value_none, value_list, value_more, value_one}
use borrow.Author.Rules.{rules}
use Rattle.kernel_assignments.proofs.value_stage.Goals as goal

pub returns-then-l-at : goal.returns-then-l-at
returns-then-l-at c = search (value_none, rules)

pub returns-then-l-at-eq40 : goal.returns-then-l-at-eq40
returns-then-l-at-eq40 c = search (value_list, rules)

pub returns-then-after_gap-l : goal.returns-then-after_gap-l
returns-then-after_gap-l c = search (value_more, rules)

pub returns : goal.returns
returns c = search (value_one, rules)
