use mathlib.Core.Path.{sym, ◌∙◌}
use borrow.Author.Rules.{rules}
use Rattle.kernel_lines.proofs.Trimming.{trim_turn, trim_stop, trim_none}
use Rattle.kernel_lines.proofs.kinds.trim.Goals as goal

pub loop-i-preserved : goal.loop-i-preserved
loop-i-preserved g c = (search rules, trim_turn _ _ _ _ c.loop-i.invariant.1 c.loop-i-test.true (sym c.is_one.ensures ∙ c.if-is_one.true))

pub returns-else-is_one-clause-value : goal.returns-else-is_one-clause-value
returns-else-is_one-clause-value g c = trim_stop _ _ _ _ c.loop-i.invariant.1 c.loop-i-test.true (sym c.is_one.ensures ∙ c.if-is_one.false)

pub returns-after-loop-i-clause-value : goal.returns-after-loop-i-clause-value
returns-after-loop-i-clause-value g c = trim_none _ _ _ _ c.loop-i.invariant.1 c.loop-i-test.false
