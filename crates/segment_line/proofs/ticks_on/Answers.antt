use Rattle.segment_line.proofs.Quotients.{ticks_are, ticks_never}
use borrow.Author.Rules.{rules}
use Rattle.segment_line.proofs.ticks_on.Goals as goal

pub returns-in-Some : goal.returns-in-Some
returns-in-Some c = search (ticks_are, rules)

pub returns-in-None : goal.returns-in-None
returns-in-None c = search (ticks_never, rules)
