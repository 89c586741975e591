use Prim.Native.Nat.{◌<◌}
use mathlib.Core.Path.{◌≡◌}
use lib.ListN.{drop}
use Rattle.packet_answers.specs.Sum.{base, sum_from, adler}
use Rattle.packet_answers.proofs.sum.adler.Given as goal

abbrev pub invariant-loop-byte : goal.invariant-loop-byte
invariant-loop-byte l = (l.a < base) × (l.b < base) × (adler l.bytes ≡ sum_from l.a l.b (drop l.byte-index l.bytes))
