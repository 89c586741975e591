use Prim.Native.Nat.{◌<◌}
use Rattle.bench_report.proofs.checksum.Given as goal

abbrev pub invariant-loop : goal.invariant-loop
invariant-loop g l = (l.x < 2147483648) × (l.sum < 1000000007)
