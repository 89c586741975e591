use Rattle.segment_line.proofs.Quotients.{line_fits, line_end, line_never}
use borrow.Author.Rules.{rules}
use Rattle.segment_line.proofs.time_on.Goals as goal

pub later-requires : goal.later-requires
later-requires c = search (line_fits, rules)

pub returns-in-Some : goal.returns-in-Some
returns-in-Some c = search (line_end, rules)

pub returns-in-None : goal.returns-in-None
returns-in-None c = search (line_never, rules)
