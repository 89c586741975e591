-- "1, 2, 3 (those the call uses)": the tables of a call, and then what follows.
use Rattle.rules.specs.declared.Layout.{Layout}
use Rattle.rules.specs.Answer.{Answer, unless, unless_at}
use Rattle.rules.specs.Layout.{layout_ok, product_of, unit_of}
use Rattle.rules.specs.Partitions.{Partitions, total_of, partitions_fault}
use Rattle.rules.specs.Segments.{Segments, segments_fault}

-- layout and partitions
abbrev pub accepted_stamps : {A : Type 0} → Layout → Partitions → Answer A → Answer A
accepted_stamps l p a = unless 1 (layout_ok l) (unless_at 2 (partitions_fault (product_of l) p) a)

-- layout, partitions and segments
unfoldable pub accepted : {A : Type 0} → Layout → Partitions → Segments → Answer A → Answer A
accepted l p g a = accepted_stamps l p (unless_at 3 (segments_fault (unit_of l) (total_of p) g) a)
