use borrow.Author.Rules.{rules}
use Rattle.command_input.proofs.LineEnd.{no_bytes, return_dropped, no_return}
use Rattle.command_input.proofs.text_length.Goals as goal

pub returns-then-n-eq0-clause-line_value : goal.returns-then-n-eq0-clause-line_value
returns-then-n-eq0-clause-line_value c = search (no_bytes, rules)

pub returns-then-line-n-eq-LINE_RETURN-clause-line_value : goal.returns-then-line-n-eq-LINE_RETURN-clause-line_value
returns-then-line-n-eq-LINE_RETURN-clause-line_value c = search (return_dropped, rules)

pub returns-clause-line_value : goal.returns-clause-line_value
returns-clause-line_value c = search (no_return, rules)
