use Rattle.field_print.proofs.OneField.{offset_small, sum_fits, sum_some, field_width_is}
use borrow.Author.Rules.{rules}
use Rattle.field_print.proofs.field_width.Goals as goal

pub overflow_add-modulus : goal.overflow_add-modulus
overflow_add-modulus c = search (sum_fits, offset_small, rules)

pub overflow_sub-modulus : goal.overflow_sub-modulus
overflow_sub-modulus c = search (sum_some, rules)

pub returns-clause-value : goal.returns-clause-value
returns-clause-value c = search (field_width_is, rules)
