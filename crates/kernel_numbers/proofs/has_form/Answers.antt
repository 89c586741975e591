use Rattle.kernel_numbers.proofs.Whole.{form_is}
use borrow.Author.Rules.{rules}
use Rattle.kernel_numbers.proofs.has_form.Goals as goal

pub returns : goal.returns
returns c = search (form_is, rules)
