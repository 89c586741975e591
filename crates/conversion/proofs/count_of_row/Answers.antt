use borrow.Author.Rules.{rules}
use Rattle.conversion.proofs.Conversions.{sum_fits, row_count}
use Rattle.conversion.proofs.count_of_row.Goals as goal

pub overflow_add-reached : goal.overflow_add-reached
overflow_add-reached c = search (sum_fits, rules)

pub returns : goal.returns
returns c = search (row_count, rules)
