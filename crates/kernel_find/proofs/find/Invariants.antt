use Prim.Native.Nat.{◌-◌}
use lib.ListN.{length}
use Rattle.kernel_find.proofs.Walk.{Walk}
use Rattle.kernel_find.proofs.find.Given as goal

abbrev pub invariant-loop-at : goal.invariant-loop-at
invariant-loop-at l = Walk l.text l.from l.digits l.slots l.at l.stage

abbrev pub decreases-loop-at : goal.decreases-loop-at
decreases-loop-at l = length l.text - l.at
