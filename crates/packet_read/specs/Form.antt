-- What checking a packet's form answers, and what counting its time asks.
use Rattle.std.specs.Prelude.{ℕ, ◌+◌, ◌≤◌, ◌<◌, ◌≡◌, List, length}
use Rattle.rules.specs.Limits.{largest_p}
use Rattle.rules.specs.Partitions.{Partitions, partitions_in, end_of}
use Rattle.encode.specs.Listed.{Listed}
use Rattle.packet_rules.specs.declared.TimeOctets.{TimeOctets}
use Rattle.packet_rules.specs.Octets.{bits}
use Rattle.packet_rules.specs.Header.{most_coarse, most_fine, octets_in, time_end}

-- how many octets the P-field p gives the time
abbrev pub octets_by : ℕ → TimeOctets
octets_by p = record { coarse = bits 2 2 p + 1; fine = bits 0 2 p }

-- the time's octets are those of the packet, and all there
pub record TimeThere (o : TimeOctets) (s : List ℕ) : Type 0 where
  pub octets : o ≡ octets_in s
  pub coarse : o.coarse ≤ most_coarse
  pub fine : o.fine ≤ most_fine
  pub there : time_end o ≤ length s

-- partitions whose lengths can be added, none of which holds the largest P
pub record Held (p : Partitions) : Type 0 where
  pub listed : Listed p
  pub small : (i : ℕ) → i < partitions_in p → end_of p i < largest_p
