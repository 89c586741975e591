use Prim.Native.Nat.{◌-◌}
use borrow.Author.Rules.{rules}
use Rattle.segment_search.proofs.Segments.{counts_start, counts_lower, counts_upper, count_found}
use Rattle.segment_search.proofs.row_of_count.Goals as goal

pub loop-low-init : goal.loop-low-init
loop-low-init c = search (counts_start, rules)

pub loop-low-preserved-then-e-counts : goal.loop-low-preserved-then-e-counts
loop-low-preserved-then-e-counts c = search (counts_lower, rules)

pub loop-low-preserved : goal.loop-low-preserved
loop-low-preserved c = search (counts_upper, rules)

pub returns : goal.returns
returns c = search (count_found, rules)
