use Prim.Native.Nat.{◌-◌}
use Rattle.segment_search.proofs.Segments.{CountsLeft}
use Rattle.segment_search.proofs.row_of_count.Given as goal

abbrev pub invariant-loop-low : goal.invariant-loop-low
invariant-loop-low l = CountsLeft l.counts l.e l.low l.high

abbrev pub decreases-loop-low : goal.decreases-loop-low
decreases-loop-low l = l.high - l.low
