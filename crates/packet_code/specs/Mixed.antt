-- What is made of a packet's answer: one number, into which all of it goes.
use Rattle.std.specs.Prelude.{ℕ, ◌+◌, ◌%◌, ◌^◌, Option, Some, None}
use Rattle.rules.specs.Answer.{Answer, answer, refused, Numbered}
use Rattle.packet_rules.specs.declared.Packet.{Packet}

-- twice x and y, modulo 2^64
unfoldable pub with : ℕ → ℕ → ℕ
with x y = ((x + x) % 2 ^ 64 + y) % 2 ^ 64

unfoldable pub mixed_packet : Packet → ℕ
mixed_packet k =
    with (with (with (with (with (with (with (with (with 0 k.header.kind) k.header.apid) k.header.flags) k.header.sequence) k.octets.coarse) k.octets.fine) k.payload_at) k.count) k.encoded

abbrev pub with_place : ℕ → Option ℕ → ℕ
with_place n None = n
with_place n (Some i) = with n i

abbrev pub mixed_refusal : Numbered → ℕ
mixed_refusal k = with_place k.number k.place

abbrev pub mixed : Answer Packet → ℕ
mixed (answer k) = mixed_packet k
mixed (refused k) = mixed_refusal k
