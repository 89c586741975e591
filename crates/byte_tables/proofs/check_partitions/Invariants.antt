use Rattle.c_rules.specs.Numbers.{numbers}
use Rattle.partitions.proofs.Rows.{RowsTo}
use Rattle.byte_tables.proofs.check_partitions.Given as goal

abbrev pub invariant-loop-i : goal.invariant-loop-i
invariant-loop-i l = RowsTo l.product (numbers l.starts) (numbers l.ends) l.i l.total
