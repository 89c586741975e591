-- "CCSDS Space Packets (CCSDS 133.0-B) with a CUC time (CCSDS 301.0-B) as secondary header": where each field of the two headers stands.
-- The primary header is three words of two octets, high bit first: version 3 bits, type 1, secondary header flag 1, APID 11; sequence
-- flags 2, sequence count 14; length 16. Behind it stands the P-field: extension 1 bit, time code 3, coarse octets less one 2, fine octets 2.
use Rattle.std.specs.Prelude.{ℕ, ◌+◌, List, get_or, take, drop}
use Rattle.packet_rules.specs.declared.PacketHeader.{PacketHeader}
use Rattle.packet_rules.specs.declared.TimeOctets.{TimeOctets}
use Rattle.packet_rules.specs.Octets.{big, bits}

-- how many octets the primary header has
abbrev pub header_octets : ℕ
header_octets = 6

-- the word of two octets at this place
unfoldable pub word_at : ℕ → List ℕ → ℕ
word_at i s = big (take 2 (drop i s))

-- the three words of the primary header
abbrev pub identification : List ℕ → ℕ
identification s = word_at 0 s

abbrev pub sequence_control : List ℕ → ℕ
sequence_control s = word_at 2 s

abbrev pub length_field : List ℕ → ℕ
length_field s = word_at 4 s

abbrev pub version : List ℕ → ℕ
version s = bits 13 3 (identification s)

abbrev pub secondary_flag : List ℕ → ℕ
secondary_flag s = bits 11 1 (identification s)

-- the other fields, which are handed through
abbrev pub header_in : List ℕ → PacketHeader
header_in s =
    record {
      kind = bits 12 1 (identification s);
      apid = bits 0 11 (identification s);
      flags = bits 14 2 (sequence_control s);
      sequence = bits 0 14 (sequence_control s);
    }

-- the largest number that each of them has bits for
abbrev pub largest_kind : ℕ
largest_kind = 1

abbrev pub largest_apid : ℕ
largest_apid = 2_047

abbrev pub largest_flags : ℕ
largest_flags = 3

abbrev pub largest_sequence : ℕ
largest_sequence = 16_383

-- the P-field is the first octet of the secondary header
abbrev pub p_field : List ℕ → ℕ
p_field s = get_or s header_octets 0

abbrev pub extension : List ℕ → ℕ
extension s = bits 7 1 (p_field s)

abbrev pub time_code : List ℕ → ℕ
time_code s = bits 4 3 (p_field s)

-- "1 to 4 coarse and 0 to 3 fine octets": what the two bits of each hold
abbrev pub most_coarse : ℕ
most_coarse = 4

abbrev pub most_fine : ℕ
most_fine = 3

-- as the P-field has them
abbrev pub octets_in : List ℕ → TimeOctets
octets_in s = record { coarse = bits 2 2 (p_field s) + 1; fine = bits 0 2 (p_field s) }

-- "time code 010"
abbrev pub agency_epoch : ℕ
agency_epoch = 2

-- where the time begins, behind header and P-field, and where it ends
abbrev pub time_start : ℕ
time_start = header_octets + 1

abbrev pub time_end : TimeOctets → ℕ
time_end o = time_start + o.coarse + o.fine

-- "The packet's length field is the data octets less one": so long is a packet, by its length field alone
abbrev pub packet_length : List ℕ → ℕ
packet_length s = header_octets + (length_field s + 1)
