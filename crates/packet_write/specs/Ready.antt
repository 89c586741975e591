-- What writing a packet asks of its tables.
use Rattle.std.specs.Prelude.{ℕ, ◌≤◌, ◌≡◌}
use Rattle.rules.specs.Partitions.{Partitions, total_of}
use Rattle.decode.specs.Decodable.{Decodable}

-- accepted partitions, with their total
pub record Ready (total : ℕ) (p : Partitions) : Type 0 where
  pub total_is : total ≡ total_of p
  pub decodable : (e : ℕ) → e ≤ total_of p → Decodable p e
