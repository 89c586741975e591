-- Whether two layouts are one, by the tests of the code.
use mathlib.Core.Path.{◌≡◌, refl, ap}
use mathlib.Core.Bool.{◌&&◌, and-true}
use mathlib.Core.List.{List, [], ◌∷◌}
use lib.Dec.{eqb}
use lib.ListN.{take}
use Prim.Native.Nat.{ℕ}
use Rattle.std.specs.Cmp.Lexicographic.{pointwise}
use Rattle.base.specs.Scans.{all_of}
use Rattle.rules.specs.declared.Layout.{Layout}
use Rattle.rules.specs.Layout.{moduli_of, offsets_of}
use Rattle.versions.specs.Equal.{same}
use Rattle.succession_rules.specs.Kept.{same_layout}

same_pointwise : (xs ys : List ℕ) → same eqb xs ys ≡ pointwise eqb xs ys
unfolding same
same_pointwise [] [] = refl
same_pointwise [] (y ∷ ys) = refl
same_pointwise (x ∷ xs) [] = refl
same_pointwise (x ∷ xs) (y ∷ ys) = ap (λ t. eqb x y && t) (same_pointwise xs ys)

pub layout_tests : (older newer : Layout) → same_layout older newer ≡ (eqb newer.n older.n && (pointwise eqb (take older.n newer.moduli) (moduli_of older)
    && (pointwise eqb (take older.n newer.offsets) (offsets_of older) && eqb newer.delimiter older.delimiter)))
unfolding same_layout all_of
layout_tests older newer =
    rw (same_pointwise (take older.n newer.moduli) (moduli_of older), same_pointwise (take older.n newer.offsets) (offsets_of older), and-true (eqb newer.delimiter older.delimiter))
