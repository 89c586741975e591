use borrow.Author.Rules.{rules}
use Rattle.fields.proofs.Caps.{times_next, times_done}
use Rattle.fields.proofs.in_ticks.Goals as goal

pub loop-i-preserved : goal.loop-i-preserved
loop-i-preserved c = (search rules, search (times_next, rules))

pub returns : goal.returns
returns c = search (times_done, rules)
