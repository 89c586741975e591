use Prim.Native.Nat.{◌*◌, ◌≤◌}
use Rattle.bench_partitions.proofs.fill.Given as goal

abbrev pub invariant-loop-i : goal.invariant-loop-i
invariant-loop-i l = l.start ≤ l.i * 4294967296
