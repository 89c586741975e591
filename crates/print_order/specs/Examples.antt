-- Byte order by example, and stamps of two partitions.
use Rattle.std.specs.Prelude.{◌≡◌, refl, Bool, true, false, [], ◌∷◌, map, replicate}
use Prim.Native.String.{String}
use Rattle.rules.specs.Computing.{computing}
use Rattle.rules.specs.Examples.{bytes, layout_a}
use Rattle.rules.specs.Partitions.{Partitions, partitions}
use Rattle.rules.specs.Print.{stamp_print}
use Rattle.rules.specs.CallEdges.{one_field}
use Rattle.print_order.specs.Order.{sorts_before, fields_length, count_length, stamp_length}

unfoldable pub stands_before : String → String → Bool
stands_before s t = sorts_before (bytes s) (bytes t)

-- the first byte that differs, equal texts, a text that goes on; `9` stands after `10`, which the width mends
pub byte_order :
    (stands_before "09" "10" ∷ stands_before "10" "09" ∷ stands_before "09" "09" ∷ stands_before "1" "10" ∷ stands_before "10" "1" ∷ stands_before "" "0" ∷ stands_before "" "" ∷ stands_before "9" "10" ∷ [])
    ≡ (true ∷ false ∷ false ∷ true ∷ false ∷ true ∷ false ∷ false ∷ [])
unfolding computing sorts_before bytes stands_before
byte_order = refl

-- ten partitions 0..1
unfoldable pub ten_partitions : Partitions
ten_partitions = partitions (replicate 10 0) (replicate 10 1)

-- As bytes alone stamps of partitions 9 and 10 are out of order: encoded 8 is `9/00.0`, encoded 9 is `10/00.0`, one byte longer.
pub ninth_and_tenth :
    (map (stamp_print layout_a ten_partitions) (8 ∷ 9 ∷ []) ≡ map bytes ("9/00.0" ∷ "10/00.0" ∷ []))
    × (sorts_before (stamp_print layout_a ten_partitions 8) (stamp_print layout_a ten_partitions 9) ≡ false)
    × (map (stamp_length layout_a) (8 ∷ 9 ∷ []) ≡ (6 ∷ 7 ∷ []))
unfolding computing sorts_before fields_length count_length stamp_length bytes layout_a ten_partitions
ninth_and_tenth = (refl, refl, refl)

-- modulus 10: a byte without an offset, two with offset 1; table A: `00.0` to `99.9`
pub lengths : (map (λ o. count_length (one_field 10 o)) (0 ∷ 1 ∷ []) ≡ (1 ∷ 2 ∷ [])) × (count_length layout_a ≡ 4)
unfolding computing fields_length count_length layout_a one_field
lengths = (refl, refl)
