use Prim.Native.Nat.{◌-◌}
use lib.ListN.{length}
use Rattle.kernel_walk.proofs.Walking.{Walk}
use Rattle.kernel_walk.proofs.next_value.Given as goal

abbrev pub invariant-loop-stop : goal.invariant-loop-stop
invariant-loop-stop l = Walk l.text l.at l.end l.next l.from l.stop l.more

abbrev pub decreases-loop-stop : goal.decreases-loop-stop
decreases-loop-stop l = length l.text - l.more
