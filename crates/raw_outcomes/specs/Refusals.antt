-- The exact set of refusals of each call, of which 2 has a place. proofs/Refusals.antt shows that no other is given; here a call gives each.
use Rattle.std.specs.Prelude.{ℕ, refl, List, [], ◌∷◌}
use Rattle.rules.specs.declared.Layout.{Layout}
use Rattle.rules.specs.Answer.{numbered, placed}
use Rattle.rules.specs.Partitions.{Partitions}
use Rattle.rules.specs.Computing.{computing}
use Rattle.rules.specs.Examples.{layout_a, partitions_a}
use Rattle.rules.specs.CallEdges.{no_layout, no_partitions}
use Rattle.outcomes.specs.Refusals.{has_place, OnlyRefuses}
use Rattle.outcomes.specs.Given.{Given}
use Rattle.raw_rules.specs.declared.RawCounter.{RawCounter}
use Rattle.raw_rules.specs.Counter.{raw_difference, reset_raw, not_past, read_raw}
use Rattle.raw_rules.specs.Seconds.{subtick_of, with_carry, read_seconds}
use Rattle.raw_rules.specs.Examples.{new, at}

unfoldable pub reset_refusals : List ℕ
reset_refusals = 1 ∷ 2 ∷ 10 ∷ []

unfoldable pub read_refusals : List ℕ
read_refusals = 1 ∷ 2 ∷ 27 ∷ 12 ∷ []

unfoldable pub seconds_refusals : List ℕ
seconds_refusals = 24 ∷ []

pub record Refusals : Type 0 where
  pub reset_raw_lem : (l : Layout) (p : Partitions) (number : ℕ) → OnlyRefuses has_place reset_refusals (reset_raw l p number)
  pub read_raw_lem : (l : Layout) (p : Partitions) (c : RawCounter) (raw : ℕ) → OnlyRefuses has_place read_refusals (read_raw l p c raw)
  pub read_seconds_lem : (seconds us : ℕ) → OnlyRefuses has_place seconds_refusals (read_seconds seconds us)

pub refusals_given :
    Given
    (reset_raw no_layout partitions_a 1 ∷ reset_raw layout_a no_partitions 1 ∷ reset_raw layout_a partitions_a 3 ∷ [])
    (numbered 1 ∷ placed 2 0 ∷ numbered 10 ∷ [])
    reset_refusals
    × Given
    (read_raw no_layout partitions_a (at 0 0) 1 ∷ read_raw layout_a no_partitions (at 0 0) 1 ∷ read_raw layout_a partitions_a (new 0 0) 1 ∷ read_raw layout_a partitions_a (at 0 0) 1_201 ∷ [])
    (numbered 1 ∷ placed 2 0 ∷ numbered 27 ∷ numbered 12 ∷ [])
    read_refusals
    × Given
    (read_seconds 0 1_000_000 ∷ [])
    (numbered 24 ∷ [])
    seconds_refusals
unfolding computing layout_a partitions_a no_layout no_partitions raw_difference reset_raw not_past read_raw subtick_of with_carry read_seconds reset_refusals read_refusals seconds_refusals
refusals_given = ((refl, refl), (refl, refl), (refl, refl))
