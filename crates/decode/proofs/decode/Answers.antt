use mathlib.Core.Path.{refl}
use native.Mathlib.Omega.{arith}
use borrow.Author.Rules.{rules}
use Rattle.decode.proofs.Searching.{search_start, search_next, search_fits, in_order, here_partition, here_fits, last_partition, last_fits, decoded_count}
use Rattle.decode.proofs.decode.Goals as goal

pub loop-i-init : goal.loop-i-init
loop-i-init c = search (search_start, rules)

pub overflow_sub-next : goal.overflow_sub-next
overflow_sub-next c = search (in_order, refl, rules)

pub overflow_add-next : goal.overflow_add-next
overflow_add-next c = search (search_fits, refl, rules)

pub overflow_add-result : goal.overflow_add-result
overflow_add-result c = here_fits _ _ _ c.requires _ _ c.loop-i.invariant _ _ refl refl c.if-encoded-next.true

pub returns-then-encoded-next : goal.returns-then-encoded-next
returns-then-encoded-next c = let inv = c.loop-i.invariant in
    let here = here_partition _ _ _ c.requires _ _ inv _ _ refl refl c.if-encoded-next.true in
    record { partition_value = here; count_value = decoded_count _ _ _ c.requires _ _ inv _ refl here }

pub loop-i-preserved : goal.loop-i-preserved
loop-i-preserved c = search_next _ _ _ c.requires _ _ c.loop-i.invariant _ _ refl refl _ refl (omega arith) c.if-encoded-next.false

pub overflow_add-result-2 : goal.overflow_add-result-2
overflow_add-result-2 c = search (last_fits, refl, rules)

pub returns-clause-partition_value : goal.returns-clause-partition_value
returns-clause-partition_value c = search (last_partition, refl, rules)

pub returns-clause-count_value : goal.returns-clause-count_value
returns-clause-count_value c = search (last_partition, decoded_count, refl, rules)
