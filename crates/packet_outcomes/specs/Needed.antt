-- "where no earlier partition holds it" is needed: an encoded count whose clock's count an earlier partition holds reads back as another.
use Rattle.std.specs.Prelude.{ℕ, ◌≡◌, refl, List, [], ◌∷◌}
use Rattle.rules.specs.Answer.{answer}
use Rattle.rules.specs.Partitions.{Partitions, partitions}
use Rattle.rules.specs.Computing.{computing}
use Rattle.packet_rules.specs.Octets.{big_from, octets, bits}
use Rattle.packet_rules.specs.Header.{word_at}
use Rattle.packet_rules.specs.Read.{form_ok, accepted_packet, ticks, ticks_in, packet_at, read_packet}
use Rattle.packet_rules.specs.Write.{writable, packet_bytes, packet_of, write_packet}
use Rattle.packet_rules.specs.Examples.{time_octets, clock, two_partitions, zeros}
use Rattle.packet_outcomes.specs.RoundTrip.{Content, write, back_with}

-- the start of the second partition
abbrev pub second_start : Content
second_start = record { header = zeros; octets = time_octets 2 0; encoded = 300; payload = [] }

unfoldable pub start_bytes : List ℕ
start_bytes = 8 ∷ 0 ∷ 0 ∷ 0 ∷ 0 ∷ 2 ∷ 36 ∷ 0 ∷ 100 ∷ []

-- partitions 0..300 and 100..900: the first holds 100 too
pub needed : (write (clock 1_000 1) two_partitions second_start 9 ≡ answer start_bytes) × (read_packet (clock 1_000 1) two_partitions start_bytes ≡ answer (back_with two_partitions second_start 100))
unfolding computing big_from octets bits word_at form_ok accepted_packet ticks ticks_in packet_at read_packet writable packet_bytes packet_of write_packet clock two_partitions start_bytes
needed = (refl, refl)

-- 0..300 and 300..900: the first holds 300 too, as its end, which has the same encoded count
unfoldable pub meeting : Partitions
meeting = partitions (0 ∷ 300 ∷ []) (300 ∷ 900 ∷ [])

unfoldable pub meeting_bytes : List ℕ
meeting_bytes = 8 ∷ 0 ∷ 0 ∷ 0 ∷ 0 ∷ 2 ∷ 36 ∷ 1 ∷ 44 ∷ []

pub met : (write (clock 1_000 1) meeting second_start 9 ≡ answer meeting_bytes) × (read_packet (clock 1_000 1) meeting meeting_bytes ≡ answer (back_with meeting second_start 300))
unfolding computing big_from octets bits word_at form_ok accepted_packet ticks ticks_in packet_at read_packet writable packet_bytes packet_of write_packet clock meeting meeting_bytes
met = (refl, refl)
