use Prim.Native.Nat.{◌-◌, ◌≤◌}
use mathlib.Core.Path.{◌≡◌}
use lib.ListN.{length}
use Rattle.kernel_lines.specs.Kinds.{after_span}
use Rattle.kernel_lines.proofs.kinds.after.Given as goal

abbrev pub invariant-loop-j : goal.invariant-loop-j
invariant-loop-j g l = (l.i ≤ l.j) × (l.j ≤ length l.l) × (after_span g.K.ByteKind.is_one l.l l.i ≡ after_span g.K.ByteKind.is_one l.l l.j)

abbrev pub decreases-loop-j : goal.decreases-loop-j
decreases-loop-j g l = length l.l - l.j
