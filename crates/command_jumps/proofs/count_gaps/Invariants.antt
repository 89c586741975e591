use Prim.Native.Nat.{◌≤◌}
use mathlib.Core.Path.{◌≡◌}
use lib.ListN.{length}
use Rattle.rules.specs.Segments.{segments}
use Rattle.command_rules.specs.Describe.{count_below, is_gap}
use Rattle.command_jumps.proofs.count_gaps.Given as goal

abbrev pub invariant-loop-i : goal.invariant-loop-i
invariant-loop-i l = (l.i ≤ length l.counts) × (l.found ≡ count_below (is_gap l.unit (segments l.counts l.times l.rates)) l.i)
