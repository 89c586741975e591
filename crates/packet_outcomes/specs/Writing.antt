-- What writing takes, and what it writes, without its ladder. proofs/Written.antt has the proof.
use Rattle.std.specs.Prelude.{ℕ, ◌+◌, ◌/◌, ◌^◌, ◌≤◌, ◌<◌, ◌≡◌, List, ◌↔◌, length}
use Rattle.rules.specs.declared.Layout.{Layout}
use Rattle.rules.specs.Answer.{answer}
use Rattle.rules.specs.Partitions.{Partitions, total_of}
use Rattle.packet_rules.specs.declared.PacketHeader.{PacketHeader}
use Rattle.packet_rules.specs.declared.TimeOctets.{TimeOctets}
use Rattle.packet_rules.specs.Header.{largest_kind, largest_apid, largest_flags, largest_sequence, most_coarse, most_fine, time_end}
use Rattle.packet_rules.specs.Read.{second_modulus}
use Rattle.packet_rules.specs.Write.{most_data_octets, data_octets, packet_bytes}
use Rattle.packet_outcomes.specs.Reading.{GoodClock}
use Rattle.packet_outcomes.specs.RoundTrip.{Content, write, clock_count}

-- "26 for octets .. or a header field out of range"
pub record InRange (h : PacketHeader) (o : TimeOctets) : Type 0 where
  pub coarse_low : 1 ≤ o.coarse
  pub coarse_high : o.coarse ≤ most_coarse
  pub fine : o.fine ≤ most_fine
  pub kind : h.kind ≤ largest_kind
  pub apid : h.apid ≤ largest_apid
  pub flags : h.flags ≤ largest_flags
  pub sequence : h.sequence ≤ largest_sequence

pub record Writable (l : Layout) (p : Partitions) (w : Content) (room : ℕ) : Type 0 where
  pub clock : GoodClock l p
  pub ranges : InRange w.header w.octets
  -- "Writing needs m equal to 256^f"
  pub modulus : second_modulus l ≡ 256 ^ w.octets.fine
  pub few : data_octets w.octets w.payload ≤ most_data_octets
  pub within : w.encoded ≤ total_of p
  -- the coarse octets hold the whole units
  pub held : clock_count p w / 256 ^ w.octets.fine < 256 ^ w.octets.coarse
  pub fits : time_end w.octets + length w.payload ≤ room

pub record Writing : Type 0 where
  -- a packet is written exactly then
  pub answered : (l : Layout) (p : Partitions) (w : Content) (room : ℕ) (s : List ℕ)
      → write l p w room ≡ answer s ↔ Writable l p w room × (s ≡ packet_bytes w.header w.octets (clock_count p w) w.payload)
