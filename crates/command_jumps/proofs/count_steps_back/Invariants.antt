use Prim.Native.Nat.{◌≤◌}
use mathlib.Core.Path.{◌≡◌}
use lib.ListN.{length}
use Rattle.rules.specs.Segments.{segments, steps_back_at}
use Rattle.command_rules.specs.Describe.{count_below}
use Rattle.command_jumps.proofs.count_steps_back.Given as goal

abbrev pub invariant-loop-i : goal.invariant-loop-i
invariant-loop-i l = (l.i ≤ length l.counts) × (l.found ≡ count_below (steps_back_at l.unit (segments l.counts l.times l.rates)) l.i)
