-- Partitions whose lengths can be added: what encoding asks of accepted partitions, whatever the layout.
use Rattle.std.specs.Prelude.{ℕ, ◌≤◌, ◌<◌, ◌≡◌, length}
use Rattle.rules.specs.Limits.{most_partitions, largest_total}
use Rattle.rules.specs.Partitions.{Partitions, partitions_in, start_of, end_of, total_of}

pub record Listed (p : Partitions) : Type 0 where
  pub one_length : length p.ends ≡ partitions_in p
  pub few : partitions_in p ≤ most_partitions
  pub ordered : (i : ℕ) → i < partitions_in p → start_of p i ≤ end_of p i
  pub total : total_of p ≤ largest_total
