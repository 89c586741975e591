use Rattle.decimal.proofs.RightToLeft.{written_cons}
use borrow.Author.Rules.{rules}
use Rattle.field_print.proofs.write_later_field.Goals as goal

pub returns : goal.returns
returns c = search (written_cons, rules)
