use borrow.Author.Rules.{rules}
use Rattle.command_rows.proofs.RowByRow.{rows_begin}
use Rattle.command_segments.proofs.SegmentLines.{segment_next}
use Rattle.command_segments.proofs.put_segments.Goals as goal

pub loop-i-init : goal.loop-i-init
loop-i-init c = (search rules, search rules, search rules, search rules, search (rows_begin, rules))

pub loop-i-preserved : goal.loop-i-preserved
loop-i-preserved c = (
  search rules,
  search rules,
  search rules,
  search rules,
  segment_next _ _ _ _ _ _ _ c.loop-i.invariant.4 c.put_segment-put.ensures.written (search rules) (search rules),
)

pub returns-then-last-put : goal.returns-then-last-put
returns-then-last-put c = record { goes_on = search rules; within = search rules; room_left = search rules; text = search rules }

pub returns : goal.returns
returns c = record { goes_on = search rules; within = search rules; room_left = search rules; text = search rules }
