-- Reading: a whole packet to its header's fields, where its data stand, and the count of its time.
use Rattle.std.specs.Prelude.{ℕ, ◌+◌, ◌*◌, ◌^◌, Bool, List, [], ◌∷◌, leb, eqb, length, get_or, take, drop}
use Rattle.base.specs.Scans.{all_of}
use Rattle.base.specs.Rounding.{round_down}
use Rattle.rules.specs.declared.Layout.{Layout}
use Rattle.rules.specs.Answer.{Answer, answer, unless, and_then}
use Rattle.rules.specs.Partitions.{Partitions}
use Rattle.rules.specs.Stamp.{encode_first}
use Rattle.rules.specs.Accepted.{accepted_stamps}
use Rattle.packet_rules.specs.declared.Packet.{Packet}
use Rattle.packet_rules.specs.declared.TimeOctets.{TimeOctets}
use Rattle.packet_rules.specs.Octets.{big}
use Rattle.packet_rules.specs.Header.{version, secondary_flag, header_in, extension, time_code, octets_in, agency_epoch, time_start, time_end, packet_length}

-- "26 another version or time code, an extension or no secondary header"
unfoldable pub form_ok : List ℕ → Bool
form_ok s = all_of (eqb (version s) 0 ∷ eqb (secondary_flag s) 1 ∷ eqb (extension s) 0 ∷ eqb (time_code s) agency_epoch ∷ [])

-- "25 packet of another length" (under 7 bytes is one: `packet_length` is never below 7), 26, "25 a time past the data", and then what follows
unfoldable pub accepted_packet : {A : Type 0} → List ℕ → Answer A → Answer A
accepted_packet s a =
    unless 25 (eqb (length s) (packet_length s))
    (unless 26 (form_ok s)
    (unless 25 (leb (time_end (octets_in s)) (length s)) a))

-- "1 (also a clock without two fields), 2"
abbrev pub accepted_clock : {A : Type 0} → Layout → Partitions → Answer A → Answer A
accepted_clock l p a = unless 1 (eqb l.n 2) (accepted_stamps l p a)

-- "a two-field clock with modulus m second"
abbrev pub second_modulus : Layout → ℕ
second_modulus l = get_or l.moduli 1 0

-- "the ticks are (coarse×256^f + fine)×m / 256^f rounded down"
unfoldable pub ticks : ℕ → ℕ → ℕ → ℕ → ℕ
ticks m f coarse fine = round_down ((coarse * 256 ^ f + fine) * m) (256 ^ f)

-- of the time of a packet with so many octets
unfoldable pub ticks_in : ℕ → TimeOctets → List ℕ → ℕ
ticks_in m o s = ticks m o.fine (big (take o.coarse (drop time_start s))) (big (take o.fine (drop (time_start + o.coarse) s)))

-- "the partition is found as for a stamp without one, and both counts are given"
unfoldable pub packet_at : Partitions → List ℕ → ℕ → Answer Packet
packet_at p s c =
    and_then (encode_first p c)
    (λ e. answer (record { header = header_in s; octets = octets_in s; payload_at = time_end (octets_in s); count = c; encoded = e }))

-- The call.
unfoldable pub read_packet : Layout → Partitions → List ℕ → Answer Packet
read_packet l p s = accepted_packet s (accepted_clock l p (packet_at p s (ticks_in (second_modulus l) (octets_in s) s)))
