use Prim.Native.Nat.{◌≤◌, ◌-◌}
use Rattle.kernel_rules.specs.Names.{names}
use Rattle.kernel_names.proofs.NameParts.{NoneOf}
use Rattle.kernel_names.proofs.which.Given as goal

abbrev pub invariant-loop-k : goal.invariant-loop-k
invariant-loop-k l = (l.k ≤ names) × NoneOf l.digits l.w l.k

abbrev pub decreases-loop-k : goal.decreases-loop-k
decreases-loop-k l = names - l.k
