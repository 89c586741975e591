use Rattle.partitions.proofs.Rows.{RowsTo}
use Rattle.partitions.proofs.check.Given as goal

abbrev pub invariant-loop-i : goal.invariant-loop-i
invariant-loop-i l = RowsTo l.product l.starts l.ends l.i l.total
