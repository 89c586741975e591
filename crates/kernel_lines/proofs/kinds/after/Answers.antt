use mathlib.Core.Path.{sym, ◌∙◌}
use borrow.Author.Rules.{rules}
use Rattle.kernel_lines.proofs.Spans.{span_turn, span_stop, span_end}
use Rattle.kernel_lines.proofs.kinds.after.Goals as goal

pub loop-j-preserved : goal.loop-j-preserved
loop-j-preserved g c = (search rules, search rules, span_turn _ _ _ _ c.loop-j.invariant.2 c.loop-j-test.true (sym c.is_one.ensures ∙ c.if-is_one.true))

pub returns-else-is_one-clause-value : goal.returns-else-is_one-clause-value
returns-else-is_one-clause-value g c = span_stop _ _ _ _ c.loop-j.invariant.2 c.loop-j-test.true (sym c.is_one.ensures ∙ c.if-is_one.false)

pub returns-after-loop-j-clause-value : goal.returns-after-loop-j-clause-value
returns-after-loop-j-clause-value g c = span_end _ _ _ _ c.loop-j.invariant.2 c.loop-j-test.false
