use Prim.Native.Nat.{◌-◌}
use borrow.Author.Rules.{rules}
use Rattle.segment_search.proofs.Segments.{times_start, times_lower, times_upper, time_found}
use Rattle.segment_search.proofs.row_of_time.Goals as goal

pub loop-low-init : goal.loop-low-init
loop-low-init c = search (times_start, rules)

pub loop-low-preserved-then-t-times : goal.loop-low-preserved-then-t-times
loop-low-preserved-then-t-times c = search (times_lower, rules)

pub loop-low-preserved : goal.loop-low-preserved
loop-low-preserved c = search (times_upper, rules)

pub returns : goal.returns
returns c = search (time_found, rules)
