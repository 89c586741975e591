-- Packets by hand: the octets that the readings name, and each limit at its edge and one beyond.
use Rattle.std.specs.Prelude.{ℕ, ◌≡◌, refl, List, [], ◌∷◌, map, length, replicate}
use Rattle.rules.specs.declared.Layout.{Layout}
use Rattle.rules.specs.Answer.{Answer, answer, refuse, refuse_at}
use Rattle.rules.specs.Partitions.{Partitions, partitions}
use Rattle.rules.specs.Computing.{computing}
use Rattle.rules.specs.CallEdges.{no_layout, no_partitions}
use Rattle.packet_rules.specs.declared.PacketHeader.{PacketHeader}
use Rattle.packet_rules.specs.declared.TimeOctets.{TimeOctets}
use Rattle.packet_rules.specs.declared.Packet.{Packet}
use Rattle.packet_rules.specs.Octets.{big_from, octets, bits}
use Rattle.packet_rules.specs.Header.{word_at, packet_length}
use Rattle.packet_rules.specs.Read.{form_ok, accepted_packet, ticks, ticks_in, packet_at, read_packet}
use Rattle.packet_rules.specs.Write.{writable, packet_bytes, packet_of, write_packet}
use Rattle.packet_rules.specs.Walk.{tail_room, is_whole, left, Found, in_chunk, in_buffer, only_tail, found_in, next_packet}

abbrev pub header : ℕ → ℕ → ℕ → ℕ → PacketHeader
header kind apid flags sequence = record { kind = kind; apid = apid; flags = flags; sequence = sequence }

abbrev pub time_octets : ℕ → ℕ → TimeOctets
time_octets coarse fine = record { coarse = coarse; fine = fine }

abbrev pub packet : PacketHeader → TimeOctets → ℕ → ℕ → ℕ → Packet
packet h o at count encoded = record { header = h; octets = o; payload_at = at; count = count; encoded = encoded }

-- a clock of two fields with these moduli, whose second offset is 1; clocks of one field and of three
unfoldable pub clock : ℕ → ℕ → Layout
clock first second =
    record {
      n = 2;
      moduli = first ∷ second ∷ 0 ∷ 0 ∷ 0 ∷ 0 ∷ 0 ∷ 0 ∷ 0 ∷ 0 ∷ [];
      offsets = 0 ∷ 1 ∷ 0 ∷ 0 ∷ 0 ∷ 0 ∷ 0 ∷ 0 ∷ 0 ∷ 0 ∷ [];
      delimiter = 1;
    }

unfoldable pub one_field : Layout
one_field =
    record {
      n = 1;
      moduli = 1_000 ∷ 256 ∷ 0 ∷ 0 ∷ 0 ∷ 0 ∷ 0 ∷ 0 ∷ 0 ∷ 0 ∷ [];
      offsets = 0 ∷ 0 ∷ 0 ∷ 0 ∷ 0 ∷ 0 ∷ 0 ∷ 0 ∷ 0 ∷ 0 ∷ [];
      delimiter = 1;
    }

unfoldable pub three_fields : Layout
three_fields =
    record {
      n = 3;
      moduli = 1_000 ∷ 256 ∷ 1 ∷ 0 ∷ 0 ∷ 0 ∷ 0 ∷ 0 ∷ 0 ∷ 0 ∷ [];
      offsets = 0 ∷ 0 ∷ 0 ∷ 0 ∷ 0 ∷ 0 ∷ 0 ∷ 0 ∷ 0 ∷ 0 ∷ [];
      delimiter = 1;
    }

unfoldable pub up_to : ℕ → Partitions
up_to end = partitions (0 ∷ []) (end ∷ [])

-- two partitions that both hold 100 to 300
unfoldable pub two_partitions : Partitions
two_partitions = partitions (0 ∷ 100 ∷ []) (300 ∷ 900 ∷ [])

pub record Read : Type 0 where
  pub layout : Layout
  pub partitions : Partitions
  pub bytes : List ℕ
  pub answered : Answer Packet

unfoldable pub read : Layout → Partitions → List ℕ → Answer Packet → Read
read l p s a = record { layout = l; partitions = p; bytes = s; answered = a }

unfoldable pub reads : List Read
reads =
    -- one coarse octet, one fine; the offset plays no part
    read (clock 1_000 256) (up_to 1_000) (8 ∷ 0 ∷ 192 ∷ 0 ∷ 0 ∷ 2 ∷ 33 ∷ 1 ∷ 0 ∷ []) (answer (packet (header 0 0 3 0) (time_octets 1 1) 9 256 256))
    -- every header bit that is handed through, and two octets of data
    ∷ read (clock 1_000 256) (up_to 1_000) (31 ∷ 255 ∷ 255 ∷ 255 ∷ 0 ∷ 4 ∷ 33 ∷ 1 ∷ 5 ∷ 7 ∷ 7 ∷ []) (answer (packet (header 1 2_047 3 16_383) (time_octets 1 1) 9 261 261))
    -- the high octet comes first, in both parts: 258 + 772 / 65,536 of 10 ticks, rounded down
    ∷ read (clock 1_000 10) (up_to 9_000) (8 ∷ 1 ∷ 64 ∷ 2 ∷ 0 ∷ 4 ∷ 38 ∷ 1 ∷ 2 ∷ 3 ∷ 4 ∷ []) (answer (packet (header 0 1 1 2) (time_octets 2 2) 11 2_580 2_580))
    -- a tick for each 65,536th: 1 and 256 of them
    ∷ read (clock 100 65_536) (up_to 600_000) (8 ∷ 0 ∷ 0 ∷ 0 ∷ 0 ∷ 3 ∷ 34 ∷ 1 ∷ 1 ∷ 0 ∷ []) (answer (packet (header 0 0 0 0) (time_octets 1 2) 10 65_792 65_792))
    -- rounded down: 1 - 1/256 of 10 ticks; no fine octet
    ∷ read (clock 1_000 10) (up_to 9_000) (8 ∷ 0 ∷ 0 ∷ 0 ∷ 0 ∷ 2 ∷ 33 ∷ 0 ∷ 255 ∷ []) (answer (packet (header 0 0 0 0) (time_octets 1 1) 9 9 9))
    ∷ read (clock 1_000 10) (up_to 9_000) (8 ∷ 0 ∷ 0 ∷ 0 ∷ 0 ∷ 1 ∷ 32 ∷ 7 ∷ []) (answer (packet (header 0 0 0 0) (time_octets 1 0) 8 70 70))
    -- the first partition that holds the count, its end included; then only the second
    ∷ read (clock 1_000 10) two_partitions (8 ∷ 0 ∷ 0 ∷ 0 ∷ 0 ∷ 1 ∷ 32 ∷ 30 ∷ []) (answer (packet (header 0 0 0 0) (time_octets 1 0) 8 300 300))
    ∷ read (clock 1_000 10) two_partitions (8 ∷ 0 ∷ 0 ∷ 0 ∷ 0 ∷ 1 ∷ 32 ∷ 31 ∷ []) (answer (packet (header 0 0 0 0) (time_octets 1 0) 8 310 510))
    -- no bytes, under 7, and a length field one too small or too large
    ∷ read (clock 1_000 256) (up_to 1_000) [] (refuse 25)
    ∷ read (clock 1_000 256) (up_to 1_000) (8 ∷ 0 ∷ 0 ∷ 0 ∷ 0 ∷ 0 ∷ []) (refuse 25)
    ∷ read (clock 1_000 256) (up_to 1_000) (8 ∷ 0 ∷ 192 ∷ 0 ∷ 0 ∷ 1 ∷ 33 ∷ 1 ∷ 0 ∷ []) (refuse 25)
    ∷ read (clock 1_000 256) (up_to 1_000) (8 ∷ 0 ∷ 192 ∷ 0 ∷ 0 ∷ 3 ∷ 33 ∷ 1 ∷ 0 ∷ []) (refuse 25)
    -- a time past the data, after 26; one octet too few
    ∷ read (clock 1_000 256) (up_to 1_000) (8 ∷ 0 ∷ 0 ∷ 0 ∷ 0 ∷ 0 ∷ 47 ∷ []) (refuse 25)
    ∷ read (clock 1_000 256) (up_to 1_000) (8 ∷ 0 ∷ 0 ∷ 0 ∷ 0 ∷ 0 ∷ 63 ∷ []) (refuse 26)
    ∷ read (clock 1_000 256) (up_to 1_000) (8 ∷ 0 ∷ 0 ∷ 0 ∷ 0 ∷ 2 ∷ 34 ∷ 1 ∷ 0 ∷ []) (refuse 25)
    -- each version bit, no secondary header, an extension, the time codes 001 and 100
    ∷ read (clock 1_000 256) (up_to 1_000) (136 ∷ 0 ∷ 0 ∷ 0 ∷ 0 ∷ 2 ∷ 33 ∷ 1 ∷ 0 ∷ []) (refuse 26)
    ∷ read (clock 1_000 256) (up_to 1_000) (72 ∷ 0 ∷ 0 ∷ 0 ∷ 0 ∷ 2 ∷ 33 ∷ 1 ∷ 0 ∷ []) (refuse 26)
    ∷ read (clock 1_000 256) (up_to 1_000) (40 ∷ 0 ∷ 0 ∷ 0 ∷ 0 ∷ 2 ∷ 33 ∷ 1 ∷ 0 ∷ []) (refuse 26)
    ∷ read (clock 1_000 256) (up_to 1_000) (0 ∷ 0 ∷ 0 ∷ 0 ∷ 0 ∷ 2 ∷ 33 ∷ 1 ∷ 0 ∷ []) (refuse 26)
    ∷ read (clock 1_000 256) (up_to 1_000) (8 ∷ 0 ∷ 0 ∷ 0 ∷ 0 ∷ 2 ∷ 161 ∷ 1 ∷ 0 ∷ []) (refuse 26)
    ∷ read (clock 1_000 256) (up_to 1_000) (8 ∷ 0 ∷ 0 ∷ 0 ∷ 0 ∷ 2 ∷ 17 ∷ 1 ∷ 0 ∷ []) (refuse 26)
    ∷ read (clock 1_000 256) (up_to 1_000) (8 ∷ 0 ∷ 0 ∷ 0 ∷ 0 ∷ 2 ∷ 65 ∷ 1 ∷ 0 ∷ []) (refuse 26)
    -- the tables come after all that, 1 before 2 before 11
    ∷ read one_field (up_to 900) (0 ∷ 0 ∷ 0 ∷ 0 ∷ 0 ∷ 0 ∷ 33 ∷ []) (refuse 26)
    ∷ read one_field (up_to 900) (8 ∷ 0 ∷ 0 ∷ 0 ∷ 0 ∷ 2 ∷ 33 ∷ 1 ∷ 0 ∷ []) (refuse 1)
    ∷ read no_layout no_partitions (8 ∷ 0 ∷ 0 ∷ 0 ∷ 0 ∷ 2 ∷ 33 ∷ 1 ∷ 0 ∷ []) (refuse 1)
    ∷ read (clock 1_000 256) no_partitions (8 ∷ 0 ∷ 0 ∷ 0 ∷ 0 ∷ 2 ∷ 33 ∷ 200 ∷ 0 ∷ []) (refuse_at 2 0)
    ∷ read (clock 1_000 256) (up_to 1_000) (8 ∷ 0 ∷ 0 ∷ 0 ∷ 0 ∷ 2 ∷ 33 ∷ 4 ∷ 0 ∷ []) (refuse 11)
    ∷ read three_fields (up_to 900) (8 ∷ 0 ∷ 0 ∷ 0 ∷ 0 ∷ 2 ∷ 33 ∷ 1 ∷ 0 ∷ []) (refuse 1)
    -- four coarse and three fine octets
    ∷ read (clock 10 16_777_216) (up_to 67_305_985) (8 ∷ 0 ∷ 0 ∷ 0 ∷ 0 ∷ 7 ∷ 47 ∷ 0 ∷ 0 ∷ 0 ∷ 4 ∷ 3 ∷ 2 ∷ 1 ∷ []) (answer (packet (header 0 0 0 0) (time_octets 4 3) 14 67_305_985 67_305_985))
    -- ticks beyond 64 bits: 11
    ∷ read (clock 1_000 1_000_000_000_000) (up_to 1_000) (8 ∷ 0 ∷ 0 ∷ 0 ∷ 0 ∷ 7 ∷ 47 ∷ 255 ∷ 255 ∷ 255 ∷ 255 ∷ 255 ∷ 255 ∷ 255 ∷ []) (refuse 11)
    ∷ []

pub reads_hold : map (λ r. read_packet r.layout r.partitions r.bytes) reads ≡ map (λ r. r.answered) reads
unfolding computing big_from bits word_at form_ok accepted_packet ticks ticks_in packet_at read_packet clock one_field three_fields no_layout no_partitions up_to two_partitions read reads
reads_hold = refl

pub record Written : Type 0 where
  pub layout : Layout
  pub partitions : Partitions
  pub header : PacketHeader
  pub octets : TimeOctets
  pub encoded : ℕ
  pub payload : List ℕ
  pub room : ℕ
  pub answered : Answer (List ℕ)

unfoldable pub write : Layout → Partitions → PacketHeader → TimeOctets → ℕ → List ℕ → ℕ → Answer (List ℕ) → Written
write l p h o e d room a = record { layout = l; partitions = p; header = h; octets = o; encoded = e; payload = d; room = room; answered = a }

abbrev pub zeros : PacketHeader
zeros = header 0 0 0 0

unfoldable pub writes : List Written
writes =
    write (clock 100 256) (up_to 1_000) zeros (time_octets 1 1) 5 [] 9 (answer (8 ∷ 0 ∷ 0 ∷ 0 ∷ 0 ∷ 2 ∷ 33 ∷ 0 ∷ 5 ∷ []))
    -- every field at its largest; data after the time
    ∷ write (clock 100 256) (up_to 1_000) (header 1 2_047 3 16_383) (time_octets 1 1) 261 (7 ∷ 9 ∷ []) 11 (answer (31 ∷ 255 ∷ 255 ∷ 255 ∷ 0 ∷ 4 ∷ 33 ∷ 1 ∷ 5 ∷ 7 ∷ 9 ∷ []))
    -- four coarse and three fine octets; a modulus of 1 with no fine octet; an inner end is written as the next start
    ∷ write (clock 10 16_777_216) (up_to 67_305_985) zeros (time_octets 4 3) 67_305_985 [] 14 (answer (8 ∷ 0 ∷ 0 ∷ 0 ∷ 0 ∷ 7 ∷ 47 ∷ 0 ∷ 0 ∷ 0 ∷ 4 ∷ 3 ∷ 2 ∷ 1 ∷ []))
    ∷ write (clock 1_000 1) two_partitions zeros (time_octets 2 0) 300 [] 9 (answer (8 ∷ 0 ∷ 0 ∷ 0 ∷ 0 ∷ 2 ∷ 36 ∷ 0 ∷ 100 ∷ []))
    -- 1 and 2 come first
    ∷ write one_field no_partitions (header 2 0 0 0) (time_octets 0 4) 5 [] 0 (refuse 1)
    ∷ write no_layout no_partitions zeros (time_octets 1 1) 5 [] 0 (refuse 1)
    ∷ write (clock 100 256) no_partitions (header 2 0 0 0) (time_octets 0 4) 5 [] 0 (refuse_at 2 0)
    -- 26: octets, m and each header field one beyond
    ∷ write (clock 100 256) (up_to 1_000) zeros (time_octets 0 1) 5 [] 99 (refuse 26)
    ∷ write (clock 100 256) (up_to 1_000) zeros (time_octets 5 1) 5 [] 99 (refuse 26)
    ∷ write (clock 100 4_294_967_296) (up_to 1_000) zeros (time_octets 1 4) 5 [] 99 (refuse 26)
    ∷ write (clock 100 256) (up_to 1_000) zeros (time_octets 1 2) 5 [] 99 (refuse 26)
    ∷ write (clock 100 255) (up_to 1_000) zeros (time_octets 1 1) 5 [] 99 (refuse 26)
    ∷ write (clock 100 256) (up_to 1_000) (header 2 0 0 0) (time_octets 1 1) 5 [] 99 (refuse 26)
    ∷ write (clock 100 256) (up_to 1_000) (header 0 2_048 0 0) (time_octets 1 1) 5 [] 99 (refuse 26)
    ∷ write (clock 100 256) (up_to 1_000) (header 0 0 4 0) (time_octets 1 1) 5 [] 99 (refuse 26)
    ∷ write (clock 100 256) (up_to 1_000) (header 0 0 0 16_384) (time_octets 1 1) 1_001 [] 99 (refuse 26)
    ∷ write (clock 100 257) (up_to 1_000) zeros (time_octets 1 1) 5 [] 99 (refuse 26)
    ∷ write (clock 100 256) (up_to 1_000) zeros (time_octets 1 0) 5 [] 99 (refuse 26)
    -- 65,536 data octets and no more: 25 after 26, before 12 and before 9
    ∷ write (clock 1_000 256) (up_to 65_536) zeros (time_octets 1 1) 5 (replicate 65_533 7) 65_541 (refuse 16)
    ∷ write (clock 1_000 256) (up_to 65_536) (header 2 0 0 0) (time_octets 1 1) 65_537 (replicate 65_534 7) 0 (refuse 26)
    ∷ write (clock 1_000 256) (up_to 65_536) zeros (time_octets 1 1) 65_537 (replicate 65_534 7) 0 (refuse 25)
    ∷ write (clock 1_000 256) (up_to 65_536) zeros (time_octets 1 1) 65_536 (replicate 65_534 7) 0 (refuse 25)
    -- then 12, 9, 16: the total itself is written; one coarse octet holds 255 and no more
    ∷ write (clock 1_000 256) (up_to 65_535) zeros (time_octets 1 1) 65_535 [] 9 (answer (8 ∷ 0 ∷ 0 ∷ 0 ∷ 0 ∷ 2 ∷ 33 ∷ 255 ∷ 255 ∷ []))
    ∷ write (clock 1_000 256) (up_to 65_536) zeros (time_octets 1 1) 65_537 [] 0 (refuse 12)
    ∷ write (clock 1_000 256) (up_to 65_536) zeros (time_octets 1 1) 65_536 [] 0 (refuse 9)
    ∷ write (clock 1_000 256) (up_to 65_536) zeros (time_octets 1 1) 65_535 [] 8 (refuse 16)
    ∷ []

pub writes_hold : map (λ w. write_packet w.layout w.partitions w.header w.octets w.encoded w.payload w.room) writes ≡ map (λ w. w.answered) writes
unfolding computing octets writable packet_bytes packet_of write_packet clock one_field no_layout no_partitions up_to two_partitions write writes
writes_hold = refl

-- A step over a tail and a chunk: what it finds of the bytes that are left.
pub record Walked : Type 0 where
  pub tail : List ℕ
  pub chunk : List ℕ
  pub at : ℕ
  pub found : Found

unfoldable pub walk : List ℕ → List ℕ → ℕ → Found → Walked
walk t c at f = record { tail = t; chunk = c; at = at; found = f }

unfoldable pub walks : List Walked
walks =
    -- six 0 and `abc`: a packet of 7 bytes, and the tail `bc`
    walk [] (0 ∷ 0 ∷ 0 ∷ 0 ∷ 0 ∷ 0 ∷ 97 ∷ 98 ∷ 99 ∷ []) 0 (in_chunk 0 7)
    ∷ walk [] (0 ∷ 0 ∷ 0 ∷ 0 ∷ 0 ∷ 0 ∷ 97 ∷ 98 ∷ 99 ∷ []) 7 (only_tail 2)
    -- a packet that ends with the chunk is given once: the next step finds nothing
    ∷ walk [] (0 ∷ 0 ∷ 0 ∷ 0 ∷ 0 ∷ 0 ∷ 97 ∷ []) 0 (in_chunk 0 7)
    ∷ walk [] (0 ∷ 0 ∷ 0 ∷ 0 ∷ 0 ∷ 0 ∷ 97 ∷ []) 7 (only_tail 0)
    -- a place behind the chunk is its end
    ∷ walk [] (0 ∷ 0 ∷ []) 3 (only_tail 0)
    -- a cut in the header, in the length field, before the last byte
    ∷ walk (0 ∷ []) (0 ∷ 0 ∷ 0 ∷ 0 ∷ 1 ∷ 97 ∷ 98 ∷ 99 ∷ []) 0 (in_buffer 8 7)
    ∷ walk (0 ∷ 0 ∷ 0 ∷ 0 ∷ 1 ∷ []) (0 ∷ 97 ∷ []) 0 (only_tail 7)
    ∷ walk (0 ∷ 0 ∷ 0 ∷ 0 ∷ 0 ∷ 1 ∷ 97 ∷ []) (98 ∷ 99 ∷ []) 0 (in_buffer 8 1)
    ∷ walk (0 ∷ 0 ∷ 0 ∷ []) (0 ∷ 0 ∷ []) 0 (only_tail 5)
    ∷ walk (0 ∷ 0 ∷ 0 ∷ []) [] 0 (only_tail 3)
    ∷ []

pub walks_hold : map (λ w. found_in (length w.tail) w.at (left w.tail (length w.tail) w.chunk w.at)) walks ≡ map (λ w. w.found) walks
unfolding computing big_from bits word_at is_whole left found_in walk walks
walks_hold = refl

-- 16 comes before 25; the longest packet fills the buffer
pub walk_edges : (next_packet [] 65_543 [] 0 ≡ refuse 16) × (packet_length (0 ∷ 0 ∷ 0 ∷ 0 ∷ 255 ∷ 255 ∷ []) ≡ tail_room)
unfolding computing big_from word_at next_packet
walk_edges = (refl, refl)
