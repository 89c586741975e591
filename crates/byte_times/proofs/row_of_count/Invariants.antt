use Prim.Native.Nat.{◌-◌}
use Rattle.c_rules.specs.Numbers.{numbers}
use Rattle.segment_search.proofs.Segments.{CountsLeft}
use Rattle.byte_times.proofs.row_of_count.Given as goal

abbrev pub invariant-loop-low : goal.invariant-loop-low
invariant-loop-low l = CountsLeft (numbers l.counts) l.e l.low l.high

abbrev pub decreases-loop-low : goal.decreases-loop-low
decreases-loop-low l = l.high - l.low
