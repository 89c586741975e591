-- "a written packet reads back as the same clock count, and as the same encoded count where no earlier partition holds it". proofs/RoundTrip.antt has the proof.
use Rattle.std.specs.Prelude.{ℕ, ◌+◌, ◌-◌, ◌≤◌, ◌<◌, ◌≡◌, true, List, ◌⊎◌, length, take, drop}
use Rattle.rules.specs.declared.Layout.{Layout}
use Rattle.rules.specs.Answer.{Answer, answer, refuse}
use Rattle.rules.specs.Partitions.{Partitions, start_of, end_of, lengths_before}
use Rattle.rules.specs.Print.{partition_of, decoded_in, length_printed, buffer_after}
use Rattle.roundtrip.specs.Unnamed.{Holds, FirstToHold}
use Rattle.packet_rules.specs.declared.PacketHeader.{PacketHeader}
use Rattle.packet_rules.specs.declared.TimeOctets.{TimeOctets}
use Rattle.packet_rules.specs.declared.Packet.{Packet}
use Rattle.packet_rules.specs.Octets.{octets_only}
use Rattle.packet_rules.specs.Header.{time_end}
use Rattle.packet_rules.specs.Read.{read_packet}
use Rattle.packet_rules.specs.Write.{packet_bytes, write_packet}
use Rattle.packet_rules.specs.Walk.{tail_room}
use Rattle.packet_rules.specs.Examples.{time_octets, clock, up_to, zeros}

-- What is written.
pub record Content : Type 0 where
  pub header : PacketHeader
  pub octets : TimeOctets
  pub encoded : ℕ
  pub payload : List ℕ

abbrev pub write : Layout → Partitions → Content → ℕ → Answer (List ℕ)
write l p w room = write_packet l p w.header w.octets w.encoded w.payload room

-- the clock's count of the encoded count, as printing has it
abbrev pub clock_count : Partitions → Content → ℕ
clock_count p w = decoded_in p w.encoded (partition_of p w.encoded)

-- "the same clock count", the same header fields and octets, where the data stand, and some encoded count
abbrev pub back_with : Partitions → Content → ℕ → Packet
back_with p w e = record { header = w.header; octets = w.octets; payload_at = time_end w.octets; count = clock_count p w; encoded = e }

-- "no earlier partition holds it"
abbrev pub NoEarlierHolds : Partitions → Content → Type 0
NoEarlierHolds p w = (i : ℕ) → i < partition_of p w.encoded → Holds p (clock_count p w) i → ⊥

-- partition i ends where the next one, j, starts, at the count c
pub record Meets (p : Partitions) (c i j : ℕ) : Type 0 where
  pub next : i + 1 ≡ j
  pub end : end_of p i ≡ c
  pub start : start_of p j ≡ c

-- What is known of the packet s, written under these tables.
pub record Back (l : Layout) (p : Partitions) (w : Content) (s : List ℕ) : Type 0 where
  pub bytes : s ≡ packet_bytes w.header w.octets (clock_count p w) w.payload
  pub size : length s ≡ time_end w.octets + length w.payload
  pub short : length s ≤ tail_room
  pub are_octets : octets_only w.payload ≡ true → octets_only s ≡ true
  -- "data after the time as given"
  pub given : drop (time_end w.octets) s ≡ w.payload
  -- it is read, and never refused: the encoded count is that of the first partition that holds the clock's count
  pub partition : ℕ
  pub first : FirstToHold p (clock_count p w) partition
  pub read : read_packet l p s ≡ answer (back_with p w (lengths_before p partition + (clock_count p w - start_of p partition)))
  -- "the same encoded count where no earlier partition holds it"
  pub same : NoEarlierHolds p w → read_packet l p s ≡ answer (back_with p w w.encoded)
  -- and only there, except where two partitions meet: "an inner end and the next start share one encoded count"
  pub only : read_packet l p s ≡ answer (back_with p w w.encoded) → NoEarlierHolds p w ⊎ Meets p (clock_count p w) partition (partition_of p w.encoded)

abbrev pub PacketReadsBack : Type 0
PacketReadsBack = (l : Layout) (p : Partitions) (w : Content) (room : ℕ) (s : List ℕ) → write l p w room ≡ answer s → Back l p w s

-- The same of the call: of what it leaves at the front of a lent buffer, as far as its answer says.
abbrev pub CallReadsBack : Type 0
CallReadsBack =
    (l : Layout) (p : Partitions) (w : Content) (buffer : List ℕ) (n : ℕ) → length_printed (write l p w (length buffer)) ≡ answer n
    → Back l p w (take n (buffer_after (write l p w (length buffer)) buffer))

-- "over 65,536 data octets": some packet is the longest, and is refused with one octet more; two coarse octets and one fine
abbrev pub long_content : List ℕ → Content
long_content d = record { header = zeros; octets = time_octets 2 1; encoded = 5; payload = d }

pub record LongestWritten : Type 0 where
  pub written : (d : List ℕ) → length d ≡ 65_532 → (s : List ℕ) × (write (clock 1_000 256) (up_to 1_000) (long_content d) tail_room ≡ answer s) × (length s ≡ tail_room)
  pub too_long : (d : List ℕ) → length d ≡ 65_533 → (room : ℕ) → write (clock 1_000 256) (up_to 1_000) (long_content d) room ≡ refuse 25
