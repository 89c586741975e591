-- Prints of counts under an accepted layout: one length, in the order of the counts.
use Prim.Native.Nat.{ℕ, ◌≤◌, ◌<◌}
use mathlib.Core.Path.{◌≡◌, ap}
use mathlib.Core.Bool.{true}
use lib.ListN.{length, length-take}
use native.Mathlib.Omega.{arith}
use Rattle.rules.specs.declared.Layout.{Layout}
use Rattle.rules.specs.Layout.{moduli_of, offsets_of, product_of, layout_ok}
use Rattle.rules.proofs.Accepted.{layout_facts}
use Rattle.rules.specs.Print.{count_print}
use Rattle.roundtrip.specs.RoundTrip.{TenSlots}
use Rattle.roundtrip.proofs.Counts.{layout_fields}
use Rattle.print_order.specs.Order.{sorts_before, count_length, CountsOneLength, CountsInOrder}
use Rattle.print_order.proofs.Bytes.{sorts_as}
use Rattle.print_order.proofs.Lengths.{fields_length_lem}
use Rattle.print_order.proofs.Fields.{fields_sort}

some_fields : (l : Layout) → TenSlots l → layout_ok l ≡ true → 1 ≤ length (moduli_of l)
some_fields l t ok = let f = layout_facts l ok in omega (arith, length-take l.n l.moduli)

count_before : (l : Layout) → TenSlots l → layout_ok l ≡ true → (c d : ℕ) → c < d → d < product_of l → sorts_before (count_print l c) (count_print l d) ≡ true
unfolding count_print product_of
count_before l t ok c d h b = fields_sort _ c d (moduli_of l) (offsets_of l) (some_fields l t ok) (layout_fields l t ok) h b

pub counts_one_length : CountsOneLength
unfolding count_print count_length product_of
counts_one_length l t ok c h = fields_length_lem _ c (moduli_of l) (offsets_of l) (some_fields l t ok) (layout_fields l t ok) h

pub counts_in_order : CountsInOrder
counts_in_order l t ok c d h k =
    sorts_as (count_print l c) (count_print l d) c d (λ less. count_before l t ok c d less k) (λ same. ap (count_print l) same) (λ more. count_before l t ok d c more h)
