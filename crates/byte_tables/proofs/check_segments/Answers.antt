use mathlib.Core.Path.{ap}
use mathlib.Core.Bool.{not}
use borrow.Author.Rules.{rules}
use Rattle.c_rules.proofs.Bytes.{times_rows}
use Rattle.segments.proofs.Checked.{lengths_out, some_row, inner_in, next_in, last_in, rows_start, row_bad, next_bad, rows_turn, last_bad, all_good}
use Rattle.byte_tables.proofs.check_segments.Goals as goal

pub loop-i-init : goal.loop-i-init
loop-i-init c = rows_start _ _ _ _ _ _ _ _ c.rows-n.ensures (times_rows _ _ c.rows-m.ensures) c.rows-k.ensures c.lengths_ok.ensures (ap not c.if-not-lengths_ok.false)

pub loop-i-preserved : goal.loop-i-preserved
loop-i-preserved c = rows_turn _ _ _ _ _ _ c.rows-n.ensures _ c.loop-i.invariant (search rules) _ _ c.row_at-row.ensures c.row_at-next.ensures c.row_ok.ensures (ap not c.if-not-row_ok.false) c.grows.ensures (ap not c.if-not-grows.false)

pub returns-then-not-lengths_ok : goal.returns-then-not-lengths_ok
returns-then-not-lengths_ok c = search (lengths_out, times_rows, rules)

pub overflow_sub-last : goal.overflow_sub-last
overflow_sub-last c = search (some_row, rules)

pub row_at-row-requires : goal.row_at-row-requires
row_at-row-requires c = search (inner_in, times_rows, rules)

pub row_at-next-requires : goal.row_at-next-requires
row_at-next-requires c = search (next_in, times_rows, rules)

pub returns-then-not-row_ok : goal.returns-then-not-row_ok
returns-then-not-row_ok c = search (row_bad, times_rows, rules)

pub returns-then-not-grows : goal.returns-then-not-grows
returns-then-not-grows c = search (next_bad, times_rows, rules)

pub row_at-requires : goal.row_at-requires
row_at-requires c = search (last_in, times_rows, rules)

pub returns-then-not-last_row_ok : goal.returns-then-not-last_row_ok
returns-then-not-last_row_ok c = search (last_bad, times_rows, rules)

pub returns : goal.returns
returns c = search (all_good, times_rows, rules)
