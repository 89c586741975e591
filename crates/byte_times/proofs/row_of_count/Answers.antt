use borrow.Author.Rules.{rules}
use Rattle.segment_search.proofs.Segments.{counts_start, count_inside, counts_lower, counts_upper, count_found}
use Rattle.byte_times.proofs.row_of_count.Goals as goal

pub loop-low-init : goal.loop-low-init
loop-low-init c = search (counts_start, rules)

pub number_at-requires : goal.number_at-requires
number_at-requires c = search (count_inside, rules)

pub loop-low-preserved-then-e-number_at : goal.loop-low-preserved-then-e-number_at
loop-low-preserved-then-e-number_at c = search (counts_lower, rules)

pub loop-low-preserved : goal.loop-low-preserved
loop-low-preserved c = search (counts_upper, rules)

pub returns : goal.returns
returns c = search (count_found, rules)
