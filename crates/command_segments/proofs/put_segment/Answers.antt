use borrow.Author.Rules.{rules}
use Rattle.command_jumps.proofs.Jumps.{next_reached, here_in, next_time_in}
use Rattle.command_segments.proofs.SegmentLines.{last_segment, inner_segment}
use Rattle.command_segments.proofs.put_segment.Goals as goal

pub returns-then-i-counts-clause-written : goal.returns-then-i-counts-clause-written
returns-then-i-counts-clause-written c = search (inner_segment, rules)

pub returns-clause-written : goal.returns-clause-written
returns-clause-written c = search (last_segment, rules)

pub row_at-row-requires : goal.row_at-row-requires
row_at-row-requires c = search (here_in, rules)

pub reached-line-requires : goal.reached-line-requires
reached-line-requires c = search (next_reached, rules)

pub bounds-times-i : goal.bounds-times-i
bounds-times-i c = search (next_time_in, rules)
