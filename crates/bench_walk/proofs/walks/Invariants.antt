use Rattle.std.proofs.Common.{◌<◌}
use Rattle.bench_walk.proofs.walks.Given as goal

abbrev pub invariant-loop : goal.invariant-loop
invariant-loop l = (l.x < 2147483648) × (l.sum < 1000000007)
