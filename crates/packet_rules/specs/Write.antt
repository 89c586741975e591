-- Writing: header fields, an encoded count as a time, and data to a packet at the front of a lent buffer.
use Rattle.std.specs.Prelude.{ℕ, ◌+◌, ◌-◌, ◌*◌, ◌/◌, ◌^◌, Bool, List, [], ◌∷◌, ◌++◌, leb, ltb, eqb, length}
use Rattle.base.specs.Scans.{all_of}
use Rattle.rules.specs.declared.Layout.{Layout}
use Rattle.rules.specs.Answer.{Answer, unless}
use Rattle.rules.specs.Partitions.{Partitions, total_of}
use Rattle.rules.specs.Print.{partition_of, decoded_in, fitting}
use Rattle.packet_rules.specs.declared.PacketHeader.{PacketHeader}
use Rattle.packet_rules.specs.declared.TimeOctets.{TimeOctets}
use Rattle.packet_rules.specs.Octets.{octets}
use Rattle.packet_rules.specs.Header.{largest_kind, largest_apid, largest_flags, largest_sequence, most_coarse, most_fine, agency_epoch}
use Rattle.packet_rules.specs.Read.{accepted_clock, second_modulus}

-- "26 for octets, m or a header field out of range"; "Writing needs m equal to 256^f"
unfoldable pub writable : PacketHeader → TimeOctets → ℕ → Bool
writable h o m =
    all_of
    (leb 1 o.coarse
    ∷ leb o.coarse most_coarse
    ∷ leb o.fine most_fine
    ∷ eqb m (256 ^ o.fine)
    ∷ leb h.kind largest_kind
    ∷ leb h.apid largest_apid
    ∷ leb h.flags largest_flags
    ∷ leb h.sequence largest_sequence
    ∷ [])

-- "over 65,536 data octets": P-field, time and the data after it
abbrev pub most_data_octets : ℕ
most_data_octets = 65_536

abbrev pub data_octets : TimeOctets → List ℕ → ℕ
data_octets o d = 1 + o.coarse + o.fine + length d

-- The words of the primary header: version 0, the secondary header flag 1.
abbrev pub identification_of : PacketHeader → ℕ
identification_of h = h.kind * 2 ^ 12 + 2 ^ 11 + h.apid

abbrev pub sequence_control_of : PacketHeader → ℕ
sequence_control_of h = h.flags * 2 ^ 14 + h.sequence

-- no extension, time code 010
abbrev pub p_field_of : TimeOctets → ℕ
p_field_of o = agency_epoch * 2 ^ 4 + (o.coarse - 1) * 2 ^ 2 + o.fine

-- The packet of a clock's count c: m is 256^fine, so the coarse part is c over 256^fine, and the fine octets are the low ones of c.
unfoldable pub packet_bytes : PacketHeader → TimeOctets → ℕ → List ℕ → List ℕ
packet_bytes h o c d =
    octets 2 (identification_of h)
    ++ (octets 2 (sequence_control_of h)
    ++ (octets 2 (data_octets o d - 1)
    ++ (p_field_of o
    ∷ octets o.coarse (c / 256 ^ o.fine)
    ++ (octets o.fine c ++ d))))

-- "25 over 65,536 data octets, 12, 9 coarse too large, 16"
unfoldable pub packet_of : Partitions → PacketHeader → TimeOctets → ℕ → List ℕ → ℕ → Answer (List ℕ)
packet_of p h o e d room =
    unless 25 (leb (data_octets o d) most_data_octets)
    (unless 12 (leb e (total_of p))
    (unless 9 (ltb (decoded_in p e (partition_of p e) / 256 ^ o.fine) (256 ^ o.coarse))
    (fitting room (packet_bytes h o (decoded_in p e (partition_of p e)) d))))

-- The call, for a buffer with that room: "1 and 2 likewise, 26" and the rest. The encoded count's partition is printing's.
unfoldable pub write_packet : Layout → Partitions → PacketHeader → TimeOctets → ℕ → List ℕ → ℕ → Answer (List ℕ)
write_packet l p h o e d room = accepted_clock l p (unless 26 (writable h o (second_modulus l)) (packet_of p h o e d room))
