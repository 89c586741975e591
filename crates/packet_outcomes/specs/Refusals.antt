-- The exact set of refusals of each call, of which 2 has a place. proofs/Refusals.antt shows that no other is given; here a call gives each.
use Rattle.std.specs.Prelude.{ℕ, refl, Bool, List, [], ◌∷◌, eqb, replicate}
use Rattle.rules.specs.declared.Layout.{Layout}
use Rattle.rules.specs.Answer.{Answer, numbered, placed}
use Rattle.rules.specs.Partitions.{Partitions}
use Rattle.rules.specs.Computing.{computing}
use Rattle.rules.specs.CallEdges.{no_layout, no_partitions}
use Rattle.outcomes.specs.Refusals.{OnlyRefuses}
use Rattle.outcomes.specs.Given.{Given}
use Rattle.packet_rules.specs.declared.PacketHeader.{PacketHeader}
use Rattle.packet_rules.specs.declared.TimeOctets.{TimeOctets}
use Rattle.packet_rules.specs.declared.Packet.{Packet}
use Rattle.packet_rules.specs.Octets.{big_from, octets, bits}
use Rattle.packet_rules.specs.Header.{word_at}
use Rattle.packet_rules.specs.Read.{form_ok, accepted_packet, ticks, ticks_in, packet_at, read_packet}
use Rattle.packet_rules.specs.Write.{writable, packet_bytes, packet_of, write_packet}
use Rattle.packet_rules.specs.Examples.{time_octets, clock, up_to, zeros}

unfoldable pub reading_refusals : List ℕ
reading_refusals = 25 ∷ 26 ∷ 1 ∷ 2 ∷ 11 ∷ []

unfoldable pub writing_refusals : List ℕ
writing_refusals = 1 ∷ 2 ∷ 26 ∷ 25 ∷ 12 ∷ 9 ∷ 16 ∷ []

-- a packet is no text: its 9 has no place
unfoldable pub packet_place : ℕ → Bool
packet_place k = eqb k 2

pub record Refusals : Type 0 where
  pub reading : (l : Layout) (p : Partitions) (s : List ℕ) → OnlyRefuses packet_place reading_refusals (read_packet l p s)
  pub writing : (l : Layout) (p : Partitions) (h : PacketHeader) (o : TimeOctets) (e : ℕ) (d : List ℕ) (room : ℕ)
      → OnlyRefuses packet_place writing_refusals (write_packet l p h o e d room)

abbrev pub reads_as : Layout → Partitions → ℕ → Answer Packet
reads_as l p first = read_packet l p (first ∷ 0 ∷ 0 ∷ 0 ∷ 0 ∷ 2 ∷ 33 ∷ 1 ∷ 0 ∷ [])

abbrev pub writes_as : Layout → Partitions → TimeOctets → ℕ → List ℕ → Answer (List ℕ)
writes_as l p o e d = write_packet l p zeros o e d 0

pub refusals_given :
    Given
    (read_packet (clock 1_000 256) (up_to 1_000) [] ∷ reads_as (clock 1_000 256) (up_to 1_000) 0 ∷ reads_as no_layout (up_to 1_000) 8 ∷ reads_as (clock 1_000 256) no_partitions 8
    ∷ reads_as (clock 1_000 256) (up_to 255) 8 ∷ [])
    (numbered 25 ∷ numbered 26 ∷ numbered 1 ∷ placed 2 0 ∷ numbered 11 ∷ [])
    reading_refusals
    × Given
    (writes_as no_layout (up_to 1_000) (time_octets 1 1) 5 [] ∷ writes_as (clock 1_000 256) no_partitions (time_octets 1 1) 5 [] ∷ writes_as (clock 1_000 256) (up_to 1_000) (time_octets 1 2) 5 []
    ∷ writes_as (clock 1_000 256) (up_to 1_000) (time_octets 1 1) 5 (replicate 65_534 7) ∷ writes_as (clock 1_000 256) (up_to 1_000) (time_octets 1 1) 1_001 []
    ∷ writes_as (clock 1_000 256) (up_to 65_536) (time_octets 1 1) 65_536 [] ∷ writes_as (clock 1_000 256) (up_to 1_000) (time_octets 1 1) 5 [] ∷ [])
    (numbered 1 ∷ placed 2 0 ∷ numbered 26 ∷ numbered 25 ∷ numbered 12 ∷ numbered 9 ∷ numbered 16 ∷ [])
    writing_refusals
unfolding computing no_layout no_partitions big_from octets bits word_at form_ok accepted_packet ticks ticks_in packet_at read_packet writable packet_bytes packet_of write_packet clock up_to reading_refusals writing_refusals
refusals_given = ((refl, refl), (refl, refl))
