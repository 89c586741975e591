use Prim.Native.Nat.{◌-◌}
use lib.ListN.{length}
use Rattle.kernel_walk.specs.Places.{values_here}
use Rattle.kernel_values.proofs.Filling.{ListFill}
use Rattle.kernel_values.proofs.fill_list.Given as goal

abbrev pub invariant-loop-v : goal.invariant-loop-v
invariant-loop-v l = ListFill l.text (values_here l.text l.at) l.initial.out l.v l.count l.good l.exact l.out

abbrev pub decreases-loop-v : goal.decreases-loop-v
decreases-loop-v l = length l.text - l.count
