-- One layout: the two tables print counts and tell the unit alike.
use Prim.Native.Nat.{ℕ, ◌≤◌}
use native.Mathlib.Omega.{arith}
use mathlib.Core.Path.{◌≡◌}
use lib.ListN.{drop}
use Rattle.base.proofs.Lists.{all_drop_one, product_pos}
use Rattle.rules.specs.declared.Layout.{Layout}
use Rattle.rules.specs.Layout.{moduli_of, offsets_of, msf_of, unit_of}
use Rattle.rules.specs.Print.{count_print}
use Rattle.rules.specs.Facts.{LayoutFacts}

-- the part of a layout that is looked at
pub record OneLayout (l k : Layout) : Type 0 where
  pub moduli : moduli_of k ≡ moduli_of l
  pub offsets : offsets_of k ≡ offsets_of l
  pub delimiter : k.delimiter ≡ l.delimiter

module _ (l k : Layout) (one : OneLayout l k) where
  pub unit_same : unit_of k ≡ unit_of l
  unfolding unit_of msf_of
  unit_same = rw one.moduli

  pub print_same : (c : ℕ) → count_print k c ≡ count_print l c
  unfolding count_print
  print_same c = rw (one.moduli, one.offsets, one.delimiter)

pub unit_positive : (l : Layout) → LayoutFacts l → 1 ≤ unit_of l
unfolding unit_of msf_of
unit_positive l f = omega (arith, product_pos (drop 1 (moduli_of l)) (all_drop_one _ (moduli_of l) f.moduli))
