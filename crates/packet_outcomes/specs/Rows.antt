-- Request 3 of packets: where the 2 of reading and of writing is found, in both directions.
use Rattle.std.specs.Prelude.{ℕ, ◌≡◌, List, ◌↔◌}
use Rattle.rules.specs.declared.Layout.{Layout}
use Rattle.rules.specs.Answer.{refuse_at}
use Rattle.rules.specs.Partitions.{Partitions}
use Rattle.places.specs.Calls.{TwoDue}
use Rattle.packet_rules.specs.declared.PacketHeader.{PacketHeader}
use Rattle.packet_rules.specs.declared.TimeOctets.{TimeOctets}
use Rattle.packet_rules.specs.Read.{read_packet}
use Rattle.packet_rules.specs.Write.{write_packet}
use Rattle.packet_outcomes.specs.Reading.{GoodPacket}

pub record PacketRows : Type 0 where
  pub reading : (l : Layout) (p : Partitions) (s : List ℕ) (i : ℕ) → read_packet l p s ≡ refuse_at 2 i ↔ GoodPacket s × (l.n ≡ 2) × TwoDue l p i
  pub writing : (l : Layout) (p : Partitions) (h : PacketHeader) (o : TimeOctets) (e : ℕ) (d : List ℕ) (room i : ℕ)
      → write_packet l p h o e d room ≡ refuse_at 2 i ↔ (l.n ≡ 2) × TwoDue l p i
