use Prim.Native.Nat.{◌≤◌}
use mathlib.Core.Path.{◌≡◌}
use Rattle.kernel_rules.specs.Lines.{trim_to}
use Rattle.kernel_lines.proofs.kinds.trim.Given as goal

abbrev pub invariant-loop-i : goal.invariant-loop-i
invariant-loop-i g l = (l.i ≤ l.n) × (trim_to g.K.ByteKind.is_one l.l l.n ≡ trim_to g.K.ByteKind.is_one l.l l.i)

abbrev pub decreases-loop-i : goal.decreases-loop-i
decreases-loop-i g l = l.i
