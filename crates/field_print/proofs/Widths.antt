-- The length of all fields: the loop that adds up the widths, and the print of any count.
use Prim.Native.Nat.{ℕ, ◌+◌, ◌-◌, ◌≤◌, ◌<◌}
use mathlib.Core.Path.{◌≡◌, sym, ◌∙◌}
use mathlib.Core.List.{List}
use lib.ListN.{length, get_or}
use native.Mathlib.Omega.{arith}
use Rattle.base.specs.Scans.{sum_below, product}
use Rattle.base.proofs.Scans.{sum_start, sum_next}
use Rattle.rules.specs.Print.{field_width, fields_print}
use Rattle.roundtrip.specs.Fields.{AllFields}
use Rattle.print_order.specs.Order.{fields_length}
use Rattle.print_order.proofs.Lengths.{fields_length_lem}

-- the widths of the first i fields, and the delimiters between all fields
abbrev pub bytes_before : List ℕ → List ℕ → ℕ → ℕ
bytes_before ms os i = sum_below (λ j. field_width (get_or ms j 0) (get_or os j 0)) i + (length ms - 1)

module _ (ms os : List ℕ) where
  pub widths_start : length ms - 1 ≡ bytes_before ms os 0
  widths_start = rw sum_start (omega arith)

  pub widths_next : (i bytes width : ℕ) → bytes ≡ bytes_before ms os i → width ≡ field_width (get_or ms i 0) (get_or os i 0) → bytes + width ≡ bytes_before ms os (i + 1)
  widths_next i bytes width e w = rw (sum_next, e, w) (omega arith)

  pub widths_done : (i bytes : ℕ) → bytes ≡ bytes_before ms os i → i ≤ length ms → length ms ≤ i → bytes ≡ fields_length ms os
  unfolding fields_length
  widths_done i bytes e h l = let n : i ≡ length ms = omega arith in rw (e, n)

  -- whatever the count and the delimiter
  pub print_length : AllFields ms os → (d c n : ℕ) → c < product ms → n ≡ fields_length ms os → n ≡ length (fields_print d c ms os)
  print_length a d c n h e = e ∙ sym (fields_length_lem d c ms os a.some a.facts h)
