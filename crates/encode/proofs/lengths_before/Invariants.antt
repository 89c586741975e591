use mathlib.Core.Path.{◌≡◌}
use Rattle.rules.specs.Partitions.{partitions, lengths_before}
use Rattle.encode.proofs.lengths_before.Given as goal

abbrev pub invariant-loop-i : goal.invariant-loop-i
invariant-loop-i l = l.before ≡ lengths_before (partitions l.starts l.ends) l.i
