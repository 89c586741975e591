use Prim.Native.Nat.{◌<◌}
use Rattle.bench_partitions.proofs.slots.fill.Given as goal

abbrev pub invariant-loop-slot : goal.invariant-loop-slot
invariant-loop-slot g l = l.x < 2147483648
