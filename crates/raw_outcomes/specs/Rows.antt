-- Request 3 of a raw counter: where the 2 of its two calls is found.
use Rattle.std.specs.Prelude.{ℕ, ◌≡◌, ◌↔◌}
use Rattle.rules.specs.declared.Layout.{Layout}
use Rattle.rules.specs.Answer.{refuse_at}
use Rattle.rules.specs.Partitions.{Partitions}
use Rattle.places.specs.Calls.{TwoDue}
use Rattle.raw_rules.specs.declared.RawCounter.{RawCounter}
use Rattle.raw_rules.specs.Counter.{reset_raw, read_raw}

-- in both directions
pub record RawRows : Type 0 where
  pub reset : (l : Layout) (p : Partitions) (number i : ℕ) → reset_raw l p number ≡ refuse_at 2 i ↔ TwoDue l p i
  pub read : (l : Layout) (p : Partitions) (c : RawCounter) (raw i : ℕ) → read_raw l p c raw ≡ refuse_at 2 i ↔ TwoDue l p i
