use Rattle.kernel_tokens.proofs.ValueEnds.{string_width_lem}
use borrow.Author.Rules.{rules}
use Rattle.kernel_tokens.proofs.values.string_width.Goals as goal

pub returns-clause-value : goal.returns-clause-value
returns-clause-value c = search (string_width_lem, rules)
