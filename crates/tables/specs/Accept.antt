-- What accepting tables answers, and the named facts of what it accepts.
use Rattle.std.specs.Prelude.{ℕ, ◌≤◌, ◌≡◌}
use Rattle.rules.specs.declared.Layout.{Layout}
use Rattle.rules.specs.Answer.{Answer, answer, unless_at, and_then}
use Rattle.rules.specs.Limits.{largest_total}
use Rattle.rules.specs.Layout.{product_of, unit_of}
use Rattle.rules.specs.Partitions.{Partitions, partitions_fault, total_of}
use Rattle.rules.specs.Segments.{Segments, segments_fault}
use Rattle.rules.specs.Facts.{LayoutFacts, PartitionsFacts, SegmentsFacts}
use Rattle.layouts.specs.declared.Measured.{Measured}
use Rattle.layouts.specs.Measure.{UnitFacts}
use Rattle.tables.specs.declared.Basis.{Basis}

abbrev pub basis : ℕ → ℕ → Basis
basis unit total = record { unit = unit; total = total }

-- 2, after the layout: the basis for stamps
unfoldable pub stamps_basis : Partitions → Measured → Answer Basis
stamps_basis p m = unless_at 2 (partitions_fault m.product p) (answer (basis m.unit (total_of p)))

-- and 3: the basis for times
unfoldable pub table_basis : Partitions → Segments → Measured → Answer Basis
table_basis p g m = and_then (stamps_basis p m) (λ b. unless_at 3 (segments_fault b.unit b.total g) (answer b))

-- what the numbers of a basis may be
pub record BasisFacts (unit total : ℕ) : Type 0 where
  pub divides : UnitFacts unit
  pub small : total ≤ largest_total

-- what holds of an accepted layout, accepted partitions and their basis
pub record StampsFacts (l : Layout) (p : Partitions) (b : Basis) : Type 0 where
  pub layout : LayoutFacts l
  pub partitions : PartitionsFacts (product_of l) p
  pub unit : b.unit ≡ unit_of l
  pub total : b.total ≡ total_of p
  pub numbers : BasisFacts b.unit b.total

-- and with accepted segments
pub record TableFacts (l : Layout) (p : Partitions) (g : Segments) (b : Basis) : Type 0 where
  pub stamps : StampsFacts l p b
  pub segments : SegmentsFacts b.unit b.total g
