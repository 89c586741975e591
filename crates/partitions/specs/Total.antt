-- What a partition check answers.
use Rattle.std.specs.Prelude.{ℕ, ◌+◌, ◌-◌, Bool, [], ◌∷◌, leb, ltb, eqb}
use Rattle.base.specs.Scans.{all_of}
use Rattle.rules.specs.Limits.{most_partitions, largest_total}
use Rattle.rules.specs.Answer.{Answer, answer, unless_at}
use Rattle.rules.specs.Partitions.{Partitions, partitions_fault, total_of}

-- 2, and the total of partitions under P
unfoldable pub accepted_total : ℕ → Partitions → Answer ℕ
accepted_total P p = unless_at 2 (partitions_fault P p) (answer (total_of p))

-- "of one length from 1 to 9,999"
unfoldable pub lengths_ok : ℕ → ℕ → Bool
lengths_ok starts ends = all_of (eqb ends starts ∷ leb 1 starts ∷ leb starts most_partitions ∷ [])

-- what a row must meet, behind rows with this sum of lengths
unfoldable pub row_ok : ℕ → ℕ → ℕ → ℕ → Bool
row_ok P total start end = all_of (ltb start end ∷ ltb end P ∷ leb (total + (end - start)) largest_total ∷ [])
