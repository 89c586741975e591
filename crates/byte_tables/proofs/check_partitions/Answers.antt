use mathlib.Core.Path.{ap}
use mathlib.Core.Bool.{not}
use borrow.Author.Rules.{rules}
use Rattle.partitions.proofs.Rows.{in_order, sum_fits, rows_start, rows_turn}
use Rattle.partitions.proofs.Checked.{ends_there, lengths_out, row_out, accepted}
use Rattle.byte_tables.proofs.check_partitions.Goals as goal

pub returns-then-not-lengths_ok : goal.returns-then-not-lengths_ok
returns-then-not-lengths_ok c = search (lengths_out, rules)

pub loop-i-init : goal.loop-i-init
loop-i-init c = search (rows_start, rules)

pub number_at-end-requires : goal.number_at-end-requires
number_at-end-requires c = search (ends_there, rules)

pub returns-then-not-row_ok : goal.returns-then-not-row_ok
returns-then-not-row_ok c = search (row_out, rules)

pub overflow_sub-total : goal.overflow_sub-total
overflow_sub-total c = in_order _ _ _ _ c.row_ok.ensures (ap not c.if-not-row_ok.false)

pub overflow_add-total : goal.overflow_add-total
overflow_add-total c = sum_fits _ _ _ _ c.row_ok.ensures (ap not c.if-not-row_ok.false)

pub loop-i-preserved : goal.loop-i-preserved
loop-i-preserved c = search (rows_turn, rules)

pub returns : goal.returns
returns c = search (accepted, rules)
