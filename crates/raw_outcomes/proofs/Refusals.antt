-- No call gives a refusal outside its set, and 2 alone has a place.
use mathlib.Core.Path.{refl}
use Rattle.base.specs.Scans.{among}
use Rattle.raw_rules.specs.Counter.{reset_raw, not_past, read_raw}
use Rattle.raw_rules.specs.Seconds.{read_seconds}
use Rattle.outcomes.specs.Refusals.{has_place}
use Rattle.outcomes.proofs.Ladder.{answers, rung, rung_at}
use Rattle.raw_outcomes.specs.Refusals.{reset_refusals, read_refusals, seconds_refusals, Refusals}

pub refusals : Refusals
unfolding reset_raw not_past read_raw read_seconds reset_refusals read_refusals seconds_refusals has_place among
refusals =
    record {
      reset_raw_lem = λ l p number. rung 1 _ refl refl (rung_at 2 _ refl refl (rung 10 _ refl refl (answers _)));
      read_raw_lem = λ l p c raw. rung 1 _ refl refl (rung_at 2 _ refl refl (rung 27 _ refl refl (rung 12 _ refl refl (answers _))));
      read_seconds_lem = λ seconds us. rung 24 _ refl refl (answers _);
    }
