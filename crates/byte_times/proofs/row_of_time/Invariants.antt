use Prim.Native.Nat.{◌-◌}
use Rattle.c_rules.specs.Numbers.{times as times_in}
use Rattle.segment_search.proofs.Segments.{TimesLeft}
use Rattle.byte_times.proofs.row_of_time.Given as goal

abbrev pub invariant-loop-low : goal.invariant-loop-low
invariant-loop-low l = TimesLeft (times_in l.times) l.t l.low l.high

abbrev pub decreases-loop-low : goal.decreases-loop-low
decreases-loop-low l = l.high - l.low
