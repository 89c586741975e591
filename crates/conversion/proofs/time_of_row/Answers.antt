use borrow.Author.Rules.{rules}
use Rattle.conversion.proofs.Conversions.{row_time}
use Rattle.conversion.proofs.time_of_row.Goals as goal

pub returns : goal.returns
returns c = search (row_time, rules)
