use Rattle.c_rules.specs.Numbers.{numbers, times as times_of}
use Rattle.segments.proofs.Checked.{RowsTo}
use Rattle.byte_tables.proofs.check_segments.Given as goal

abbrev pub invariant-loop-i : goal.invariant-loop-i
invariant-loop-i l = RowsTo l.unit l.total (numbers l.counts) (times_of l.times) (numbers l.rates) l.i
