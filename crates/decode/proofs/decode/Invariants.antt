use Rattle.rules.specs.Partitions.{partitions}
use Rattle.decode.proofs.Searching.{Searching}
use Rattle.decode.proofs.decode.Given as goal

abbrev pub invariant-loop-i : goal.invariant-loop-i
invariant-loop-i l = Searching (partitions l.starts l.ends) l.encoded l.i l.before
