-- What two printing calls leave at the front of their buffers is in the order of what was printed.
use mathlib.Core.Path.{sym, ap, ◌∙◌}
use lib.ListN.{length}
use Rattle.rules.specs.Print.{print_count}
use Rattle.roundtrip.proofs.Buffers.{front_length, count_front, stamp_front}
use Rattle.print_order.specs.Order.{CountCallsInOrder, StampCallsInOrder}
use Rattle.print_order.proofs.Counts.{counts_one_length, counts_in_order}
use Rattle.print_order.proofs.Stamps.{stamps_by_length}

pub count_calls_in_order : CountCallsInOrder
count_calls_in_order l t c d b b' n n' h h' =
    let w = count_front l c b n h in
    let w' = count_front l d b' n' h' in
    let ok = w.accepted in (
      front_length (print_count l c (length b)) b n h ∙ ap length w.print ∙ counts_one_length l t ok c w.below
          ∙ sym (front_length (print_count l d (length b')) b' n' h' ∙ ap length w'.print ∙ counts_one_length l t ok d w'.below),
      rw (w.print, w'.print) (counts_in_order l t ok c d w.below w'.below),
    )

pub stamp_calls_in_order : StampCallsInOrder
stamp_calls_in_order l p t e f b b' n n' h h' =
    let w = stamp_front l p e b n h in
    let w' = stamp_front l p f b' n' h' in
    rw (w.print, w'.print) (stamps_by_length l p t w.accepted w.partitions e f w.within w'.within)
