use borrow.Author.Rules.{rules}
use Rattle.command_segments.proofs.SegmentLines.{front_put}
use Rattle.command_segments.proofs.put_front.Goals as goal

pub returns-clause-written : goal.returns-clause-written
returns-clause-written c = search (front_put, rules)
