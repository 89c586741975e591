use lib.ListN.{take, drop}
use Rattle.base.specs.Scans.{product}
use Rattle.c_rules.specs.Numbers.{numbers}
use Rattle.layouts.proofs.Walks.{ProductFrom}
use Rattle.byte_tables.proofs.layout.product_capped.Given as goal

abbrev pub invariant-loop-i : goal.invariant-loop-i
invariant-loop-i l = ProductFrom (product (drop 1 (take l.n (numbers l.s)))) (numbers l.s) l.n l.cap l.i l.acc
