-- The length of the fields' print: the widths and the delimiters, whatever the count.
use Prim.Native.Nat.{ℕ, ◌+◌, ◌/◌, ◌%◌, ◌≤◌, ◌<◌}
use mathlib.Core.Path.{◌≡◌}
use mathlib.Core.List.{List, [], ◌∷◌}
use lib.ListN.{length, length-append}
use native.Mathlib.Nat.{mod-lt, mul-one}
use native.Mathlib.Omega.{arith}
use Rattle.base.specs.Scans.{sum_below, product}
use Rattle.base.proofs.Scans.{sum_first}
use Rattle.rules.specs.Print.{field_width, fields_print}
use Rattle.roundtrip.proofs.Fields.{print_last, print_more}
use Rattle.roundtrip.specs.Fields.{FieldsFacts}
use Rattle.roundtrip.proofs.Split.{first_facts, quotient_below}
use Rattle.roundtrip.proofs.Length.{field_length}
use Rattle.print_order.specs.Order.{fields_length}

length_last : (m o : ℕ) (os : List ℕ) → fields_length (m ∷ []) (o ∷ os) ≡ field_width m o
unfolding fields_length sum_below
length_last m o os = omega arith

length_more : (m k : ℕ) (ms : List ℕ) (o : ℕ) (os : List ℕ) → fields_length (m ∷ k ∷ ms) (o ∷ os) ≡ field_width m o + (1 + fields_length (k ∷ ms) os)
unfolding fields_length
length_more m k ms o os = rw sum_first (omega arith)

pub fields_length_lem : (d c : ℕ) (ms os : List ℕ) → 1 ≤ length ms → FieldsFacts ms os → c < product ms → length (fields_print d c ms os) ≡ fields_length ms os
unfolding product
fields_length_lem d c [] os some f h = absurd (omega arith)
fields_length_lem d c (m ∷ ms) [] some f h = absurd (omega (arith, f.one_length))
fields_length_lem d c (m ∷ []) (o ∷ os) some f h = rw (print_last d c m o os, length_last m o os) (field_length c m o (omega (arith, mul-one m)))
fields_length_lem d c (m ∷ k ∷ ms) (o ∷ os) some f h =
    let g = first_facts m (k ∷ ms) o os f in
    rw (
      print_more d c m k ms o os,
      length-append,
      length_more m k ms o os,
      field_length (c / product (k ∷ ms)) m o (quotient_below c m (k ∷ ms) g.unit h),
      fields_length_lem d (c % product (k ∷ ms)) (k ∷ ms) os (omega arith) g.later (mod-lt c g.unit),
    )
    (omega arith)
