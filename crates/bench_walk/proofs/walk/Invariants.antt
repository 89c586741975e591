use Rattle.std.proofs.Common.{◌≡◌, ◌<◌, length}
use Rattle.bench_walk.proofs.walk.Given as goal

abbrev pub invariant-loop-left : goal.invariant-loop-left
invariant-loop-left l = (l.x < 2147483648) × (length l.buffer ≡ length l.initial.buffer)

abbrev pub decreases-loop-left : goal.decreases-loop-left
decreases-loop-left l = l.left
