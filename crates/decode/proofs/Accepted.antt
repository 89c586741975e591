-- What accepted tables give to decoding, and decoding to its caller.
use Prim.Native.Nat.{ℕ, ◌≤◌, ◌<◌}
use mathlib.Core.Path.{◌≡◌}
use native.Mathlib.Nat.{lt_of_lt_of_le}
use Rattle.rules.specs.Facts.{PartitionsFacts}
use Rattle.rules.specs.Limits.{most_partitions, largest_p}
use Rattle.rules.specs.Partitions.{Partitions, total_of}
use Rattle.rules.specs.Print.{partition_of, decoded_in}
use Rattle.rules.proofs.Accepted.{partitions_accepted}
use Rattle.roundtrip.proofs.Encoded.{lies}
use Rattle.roundtrip.proofs.Ends.{stamp_count_below_p}
use Rattle.encode.proofs.Sums.{listed}
use Rattle.decode.specs.Decodable.{Decodable}

module _ (P : ℕ) (p : Partitions) (e : ℕ) (f : P ≤ largest_p) (g : PartitionsFacts P p) (held : e ≤ total_of p) where
  pub decodable : Decodable p e
  decodable = record { listed = listed P p g; some = g.some; small = λ i b. lt_of_lt_of_le (g.each i b).in-range f; held = held }

  pub partition_few : (partition : ℕ) → partition ≡ partition_of p e → partition < most_partitions
  partition_few partition q = lt_of_lt_of_le (rw q (lies p e g.some held).below) g.few

  pub count_below : (count : ℕ) → count ≡ decoded_in p e (partition_of p e) → count < P
  count_below count q = rw q (stamp_count_below_p P p (partitions_accepted P p g) e held)
