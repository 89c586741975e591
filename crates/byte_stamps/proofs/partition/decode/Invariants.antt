use Rattle.c_rules.specs.Tables.{partitions_from}
use Rattle.decode.proofs.Searching.{Searching}
use Rattle.byte_stamps.proofs.partition.decode.Given as goal

abbrev pub invariant-loop-i : goal.invariant-loop-i
invariant-loop-i l = Searching (partitions_from l.starts l.ends) l.encoded l.i l.before
