use Rattle.kernel_tokens.proofs.Tokens.{width_ends, width_string, width_value}
use borrow.Author.Rules.{rules}
use Rattle.kernel_tokens.proofs.width_at.Goals as goal

pub returns-then-ends_value-clause-value : goal.returns-then-ends_value-clause-value
returns-then-ends_value-clause-value c = search (width_ends, rules)

pub returns-then-b-eq39-clause-value : goal.returns-then-b-eq39-clause-value
returns-then-b-eq39-clause-value c = search (width_string, rules)

pub returns-clause-value : goal.returns-clause-value
returns-clause-value c = search (width_value, rules)
