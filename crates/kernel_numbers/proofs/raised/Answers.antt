use borrow.Author.Rules.{rules}
use Rattle.kernel_numbers.proofs.Powers.{raised_none, raised_turn, raised_over, raised_done}
use Rattle.kernel_numbers.proofs.raised.Goals as goal

pub returns-then-head-eq0 : goal.returns-then-head-eq0
returns-then-head-eq0 c = search (raised_none, rules)

pub loop-left-preserved : goal.loop-left-preserved
loop-left-preserved c = (search rules, raised_turn _ _ _ _ c.loop-left-test.true c.in-Some.ensures.1 c.loop-left.invariant.1)

pub returns-in-None : goal.returns-in-None
returns-in-None c = raised_over _ _ _ _ c.loop-left-test.true c.in-None.ensures c.loop-left.invariant.1

pub returns : goal.returns
returns c = search (raised_done, rules)
