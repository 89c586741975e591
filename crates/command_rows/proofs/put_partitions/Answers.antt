use mathlib.Core.Path.{refl}
use borrow.Author.Rules.{rules}
use Rattle.encode.proofs.Sums.{in-ends, before_next, ends_at_start, before_fits}
use Rattle.command_rows.proofs.RowByRow.{rows_begin}
use Rattle.command_rows.proofs.PartitionLines.{partition_next}
use Rattle.command_rows.proofs.put_partitions.Goals as goal

pub loop-i-init : goal.loop-i-init
loop-i-init c = (search rules, search rules, search rules, search rules, search rules, search (rows_begin, rules))

pub overflow_sub-first : goal.overflow_sub-first
overflow_sub-first c = ends_at_start _ _ _ _ _ refl refl c.requires.listed _ refl (search rules)

pub overflow_add-first : goal.overflow_add-first
overflow_add-first c = before_fits _ _ _ _ _ refl refl c.requires.listed _ refl (search rules) _ (search rules)

pub loop-i-preserved : goal.loop-i-preserved
loop-i-preserved c = (
  search rules,
  search rules,
  search rules,
  search rules,
  search (before_next, rules),
  partition_next _ _ _ _ _ _ _ _ _ _ c.loop-i.invariant.5 c.put_partition-put.ensures.written refl refl refl (search rules) (search rules) (search rules),
)

pub returns-then-last-put : goal.returns-then-last-put
returns-then-last-put c = record { goes_on = search rules; within = search rules; room_left = search rules; text = search rules }

pub returns : goal.returns
returns c = record { goes_on = search rules; within = search rules; room_left = search rules; text = search rules }

pub bounds-ends-i : goal.bounds-ends-i
bounds-ends-i c = search (in-ends, refl, rules)
