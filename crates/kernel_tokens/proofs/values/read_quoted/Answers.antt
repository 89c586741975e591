use Rattle.kernel_tokens.proofs.ValueEnds.{quoted_start, quoted_over, quoted_turn, quoted_end}
use borrow.Author.Rules.{rules}
use Rattle.kernel_tokens.proofs.values.read_quoted.Goals as goal

pub loop-width-init : goal.loop-width-init
loop-width-init c = (search rules, search rules, search (quoted_start, rules))

pub returns-then-is_over-clause-value : goal.returns-then-is_over-clause-value
returns-then-is_over-clause-value c = search (quoted_over, rules)

pub loop-width-preserved : goal.loop-width-preserved
loop-width-preserved c = (search rules, search rules, search (quoted_turn, rules))

pub returns-clause-value : goal.returns-clause-value
returns-clause-value c = search (quoted_end, rules)
