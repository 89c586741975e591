use lib.Dec.{leb}
use lib.ListN.{take}
use Rattle.base.specs.Scans.{all}
use Rattle.c_rules.specs.Numbers.{numbers}
use Rattle.layouts.proofs.Walks.{AllFrom}
use Rattle.byte_tables.proofs.layout.all_at_most.Given as goal

abbrev pub invariant-loop-i : goal.invariant-loop-i
invariant-loop-i l = AllFrom (all (λ x. leb x l.limit) (take l.n (numbers l.s))) (numbers l.s) l.n l.limit l.i
