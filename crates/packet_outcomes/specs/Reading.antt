-- What reading means, without its ladder. proofs/Reading.antt has the proofs.
use Rattle.std.specs.Prelude.{ℕ, ◌+◌, ◌-◌, ◌*◌, ◌^◌, ◌≤◌, ◌<◌, ◌≡◌, true, false, List, ◌⊎◌, ◌↔◌, length}
use Rattle.base.specs.Rounding.{round_down}
use Rattle.rules.specs.declared.Layout.{Layout}
use Rattle.rules.specs.Answer.{answer, refuse}
use Rattle.rules.specs.Layout.{layout_ok, product_of}
use Rattle.rules.specs.Partitions.{Partitions, start_of, lengths_before, total_of, partitions_ok}
use Rattle.roundtrip.specs.Unnamed.{FirstToHold, NoneHolds}
use Rattle.packet_rules.specs.declared.Packet.{Packet}
use Rattle.packet_rules.specs.Header.{version, secondary_flag, header_in, extension, time_code, octets_in, agency_epoch, time_end, packet_length}
use Rattle.packet_rules.specs.Read.{second_modulus, ticks, ticks_in, read_packet}

-- version 0, a secondary header, no extension, "time code 010"
pub record RightForm (s : List ℕ) : Type 0 where
  pub version : version s ≡ 0
  pub flag : secondary_flag s ≡ 1
  pub extension : extension s ≡ 0
  pub code : time_code s ≡ agency_epoch

-- its length field "must match what is there"
abbrev pub RightLength : List ℕ → Type 0
RightLength s = length s ≡ packet_length s

pub record GoodPacket (s : List ℕ) : Type 0 where
  pub whole : RightLength s
  pub form : RightForm s
  pub within : time_end (octets_in s) ≤ length s

-- "a two-field clock" with good tables
pub record GoodClock (l : Layout) (p : Partitions) : Type 0 where
  pub two : l.n ≡ 2
  pub layout : layout_ok l ≡ true
  pub partitions : partitions_ok (product_of l) p ≡ true

abbrev pub packet_ticks : Layout → List ℕ → ℕ
packet_ticks l s = ticks_in (second_modulus l) (octets_in s) s

-- What is known of a packet s that is read as k.
pub record ReadAs (l : Layout) (p : Partitions) (s : List ℕ) (k : Packet) : Type 0 where
  pub packet : GoodPacket s
  pub clock : GoodClock l p
  pub header : k.header ≡ header_in s
  pub octets : k.octets ≡ octets_in s
  pub payload_at : k.payload_at ≡ time_end (octets_in s)
  pub payload_within : k.payload_at ≤ length s
  pub count : k.count ≡ packet_ticks l s
  pub below : k.count < product_of l
  -- "the partition is found as for a stamp without one"
  pub partition : ℕ
  pub first : FirstToHold p k.count partition
  pub encoded : k.encoded ≡ lengths_before p partition + (k.count - start_of p partition)
  -- so that count to time and printing do not refuse it 12
  pub encoded_within : k.encoded ≤ total_of p

pub record Reading : Type 0 where
  pub answered : (l : Layout) (p : Partitions) (s : List ℕ) (k : Packet) → read_packet l p s ≡ answer k → ReadAs l p s k
  -- what is refused 25, 26, 1 and 11, each exactly then (2: Rows)
  pub another_length : (l : Layout) (p : Partitions) (s : List ℕ) → read_packet l p s ≡ refuse 25
      ↔ (RightLength s → ⊥) ⊎ (RightLength s × RightForm s × (length s < time_end (octets_in s)))
  pub another_form : (l : Layout) (p : Partitions) (s : List ℕ) → read_packet l p s ≡ refuse 26 ↔ RightLength s × (RightForm s → ⊥)
  pub another_layout : (l : Layout) (p : Partitions) (s : List ℕ) → read_packet l p s ≡ refuse 1 ↔ GoodPacket s × ((l.n ≡ 2 → ⊥) ⊎ (layout_ok l ≡ false))
  pub none_holds : (l : Layout) (p : Partitions) (s : List ℕ) → read_packet l p s ≡ refuse 11 ↔ GoodPacket s × GoodClock l p × NoneHolds p (packet_ticks l s)
  -- under 7 bytes no length is right
  pub too_short_lem : (s : List ℕ) → length s < 7 → RightLength s → ⊥
  -- m ticks for each coarse unit, and the fine part of m rounded down
  pub ticks_parts : (m f coarse fine : ℕ) → ticks m f coarse fine ≡ coarse * m + round_down (fine * m) (256 ^ f)
