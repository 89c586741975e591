use Prim.Native.Nat.{◌+◌, ◌-◌, ◌≤◌}
use mathlib.Core.Path.{◌≡◌}
use Rattle.kernel_rules.specs.Lines.{part, span}
use Rattle.kernel_walk.specs.Places.{is_between}
use Rattle.kernel_walk.proofs.after_between.Given as goal

abbrev pub invariant-loop-i : goal.invariant-loop-i
invariant-loop-i l = (l.at ≤ l.i) × (l.i ≤ l.end) × (l.at + span is_between (part l.text l.at l.end) ≡ l.i + span is_between (part l.text l.i l.end))

abbrev pub decreases-loop-i : goal.decreases-loop-i
decreases-loop-i l = l.end - l.i
