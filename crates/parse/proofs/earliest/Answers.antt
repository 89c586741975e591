use borrow.Author.Rules.{rules}
use Rattle.parse.proofs.Slash.{found_front, none_stop, walks}
use Rattle.parse.proofs.earliest.Goals as goal

pub returns-then-text-i-eq47 : goal.returns-then-text-i-eq47
returns-then-text-i-eq47 c = search (found_front, rules)

pub loop-i-preserved : goal.loop-i-preserved
loop-i-preserved c = search (walks, rules)

pub returns : goal.returns
returns c = search (none_stop, rules)
