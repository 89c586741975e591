-- Behind the partitions no refusal of the two calls has a place.
use mathlib.Core.Path.{refl}
use mathlib.Core.List.{[], ◌∷◌}
use Rattle.base.specs.Scans.{among}
use Rattle.outcomes.specs.Refusals.{no_place}
use Rattle.outcomes.proofs.Ladder.{answers, rung}
use Rattle.places.proofs.Calls.{unplaced, gives_two}
use Rattle.raw_rules.specs.Counter.{reset_raw, not_past, read_raw}
use Rattle.raw_outcomes.specs.Rows.{RawRows}

pub raw_rows : RawRows
unfolding reset_raw not_past read_raw no_place among
raw_rows =
    record {
      reset = λ l p number i. gives_two l p _ i (unplaced {ks = 10 ∷ []} (rung 10 _ refl refl (answers _)));
      read = λ l p c raw i. gives_two l p _ i (unplaced {ks = 27 ∷ 12 ∷ []} (rung 27 _ refl refl (rung 12 _ refl refl (answers _))));
    }
