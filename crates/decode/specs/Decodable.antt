-- An encoded count up to the total of accepted partitions.
use Rattle.std.specs.Prelude.{ℕ, ◌≤◌, ◌<◌}
use Rattle.rules.specs.Limits.{largest_p}
use Rattle.rules.specs.Partitions.{Partitions, partitions_in, end_of, total_of}
use Rattle.encode.specs.Listed.{Listed}

pub record Decodable (p : Partitions) (e : ℕ) : Type 0 where
  pub listed : Listed p
  pub some : 1 ≤ partitions_in p
  pub small : (i : ℕ) → i < partitions_in p → end_of p i < largest_p
  pub held : e ≤ total_of p
