use Prim.Native.Nat.{◌+◌, ◌≤◌, min}
use mathlib.Core.Path.{◌≡◌}
use lib.ListN.{length}
use Rattle.rules.specs.Partitions.{partitions, lengths_before}
use Rattle.decimal.specs.Writing.{Written}
use Rattle.command_rules.specs.Describe.{partition_line}
use Rattle.command_rows.specs.Rows.{rows_between}
use Rattle.command_rows.proofs.put_partitions.Given as goal

-- where anything is put the loop has gone on
abbrev pub invariant-loop-i : goal.invariant-loop-i
invariant-loop-i l = (l.i ≤ length l.starts)
    × (min l.put 1 + l.from ≤ l.i)
    × (length l.out ≡ length l.initial.out)
    × (l.put ≤ length l.initial.out)
    × (l.first ≡ lengths_before (partitions l.starts l.ends) l.i)
    × Written (rows_between (partition_line (partitions l.starts l.ends)) l.from l.i) l.put 0 l.initial.out l.out
