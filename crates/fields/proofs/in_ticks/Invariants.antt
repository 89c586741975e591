use Prim.Native.Nat.{◌≤◌, ◌*◌, min}
use mathlib.Core.Path.{◌≡◌}
use lib.ListN.{drop}
use Rattle.base.specs.Scans.{product}
use Rattle.fields.specs.Pass.{sum_cap}
use Rattle.fields.proofs.in_ticks.Given as goal

abbrev pub invariant-loop-i : goal.invariant-loop-i
invariant-loop-i l = (l.ticks ≤ sum_cap) × (min (l.sum * product (drop l.from l.moduli)) sum_cap ≡ min (l.ticks * product (drop l.i l.moduli)) sum_cap)
