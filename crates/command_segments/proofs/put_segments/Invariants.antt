use Prim.Native.Nat.{◌+◌, ◌≤◌, min}
use mathlib.Core.Path.{◌≡◌}
use lib.ListN.{length}
use Rattle.rules.specs.Segments.{segments}
use Rattle.decimal.specs.Writing.{Written}
use Rattle.command_rules.specs.Describe.{segment_line}
use Rattle.command_rows.specs.Rows.{rows_between}
use Rattle.command_segments.proofs.put_segments.Given as goal

-- where anything is put the loop has gone on
abbrev pub invariant-loop-i : goal.invariant-loop-i
invariant-loop-i l = (l.i ≤ length l.counts)
    × (min l.put 1 + l.from ≤ l.i)
    × (length l.out ≡ length l.initial.out)
    × (l.put ≤ length l.initial.out)
    × Written (rows_between (segment_line l.seconds l.unit (segments l.counts l.times l.rates)) l.from l.i) l.put 0 l.initial.out l.out
