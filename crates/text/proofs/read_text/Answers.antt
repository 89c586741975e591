use Rattle.std.proofs.lemmas.Result.{err_from_is_err_and}
use borrow.Author.Rules.{rules}
use Rattle.text.proofs.Calls.{some_fields, few_fields, text_layout, text_refused, text_accepted}
use Rattle.text.proofs.read_text.Goals as goal

pub returns-in_err-measure : goal.returns-in_err-measure
returns-in_err-measure c = let p = err_from_is_err_and c.from_residual.result c.from_residual.ensures.1 in rw (p.1, p.2) (text_refused _ _ c.measure.ensures _ _ c.in_err-measure.was)

pub text_in-requires : goal.text_in-requires
text_in-requires c =
    let f = text_layout _ _ c.measure.ensures _ c.in_ok-measure.was in (search (some_fields, f, rules), search (few_fields, f, rules), search (few_fields, f, rules))

pub returns : goal.returns
returns c = search (text_accepted, c.in_ok-measure.was, rules)
