use Rattle.c_rules.specs.Numbers.{numbers}
use Rattle.encode.proofs.Sums.{Passed}
use Rattle.byte_stamps.proofs.partition.encode_first.Given as goal

abbrev pub invariant-loop-i : goal.invariant-loop-i
invariant-loop-i l = Passed (numbers l.starts) (numbers l.ends) l.count l.i l.before
