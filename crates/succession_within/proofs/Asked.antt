-- What the calls between the parts ask for.
use Prim.Native.Nat.{ℕ, ◌-◌, ◌≤◌}
use native.Mathlib.Omega.{arith}
use mathlib.Core.Path.{◌≡◌}
use mathlib.Core.List.{List}
use mathlib.Core.Option.{none}
use lib.IntN.{ℤ}
use lib.ListN.{length}
use Rattle.rules.specs.declared.Layout.{Layout}
use Rattle.rules.specs.Limits.{most_segments}
use Rattle.rules.specs.Partitions.{Partitions}
use Rattle.rules.specs.Segments.{Segments, segments, segments_in}
use Rattle.tables.specs.declared.Basis.{Basis}
use Rattle.tables.specs.Accept.{TableFacts}
use Rattle.succession_rules.specs.Kept.{segment_kept, segment_lost}
use Rattle.succession_rules.specs.Horizon.{shared_rows}
use Rattle.succession_rules.proofs.Found.{row_none}
use Rattle.succession_rules.proofs.Rows.{segments_fit}

-- every row of the older is kept
all_shared : (g h : Segments) (i : ℕ) → i ≡ shared_rows g h → segments_in g ≤ i → segment_lost g h ≡ none
unfolding shared_rows segment_lost
all_shared g h i e b = row_none (segment_kept g h) (segments_in g) i e b

module _ (ocs : List ℕ) (ots : List ℤ) (ors cs : List ℕ) (ts : List ℤ) (rs : List ℕ) where
  pub shared_fit : (i : ℕ) → i ≡ shared_rows (segments ocs ots ors) (segments cs ts rs) → length ocs ≤ i → length ocs ≤ length cs
  shared_fit i e b = segments_fit (segments ocs ots ors) (segments cs ts rs) (all_shared (segments ocs ots ors) (segments cs ts rs) i e b)

-- what the seam's question asks
module _ (l : Layout) (p : Partitions) (g : Segments) (b : Basis) (f : TableFacts l p g b) where
  pub unit_low : 1 ≤ b.unit
  unit_low = f.stamps.numbers.divides.low

  pub seam_low : (i : ℕ) → i ≡ segments_in g - 1 → i ≤ most_segments
  seam_low i e = omega (arith, f.segments.few)
