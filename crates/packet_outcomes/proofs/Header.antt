-- The two headers of a packet's bytes: each field is read as it was written.
use Prim.Native.Nat.{ℕ, ◌+◌, ◌*◌, ◌/◌, ◌%◌, ◌^◌, ◌≤◌, ◌<◌}
use mathlib.Core.Path.{◌≡◌, refl, ap}
use mathlib.Core.Bool.{true}
use mathlib.Core.List.{List, ◌++◌}
use lib.ListN.{length, length-append, take, drop}
use lib.Seq.{take_at, drop_at, drop-drop}
use borrow.Author.Tests.{le-leb}
use native.Mathlib.Nat.{mul-div_cancel, div-add-mod'}
use native.Mathlib.Omega.{arith}
use Rattle.base.specs.Scans.{all}
use Rattle.base.specs.Rounding.{round_down}
use Rattle.base.proofs.Lists.{all_append, all_cons}
use Rattle.packet_rules.specs.declared.PacketHeader.{PacketHeader}
use Rattle.packet_rules.specs.declared.TimeOctets.{TimeOctets}
use Rattle.packet_rules.specs.Octets.{big_from, octets, bits}
use Rattle.packet_rules.specs.Header.{word_at, header_in, octets_in, time_start, time_end, packet_length}
use Rattle.packet_rules.specs.Read.{ticks, ticks_in}
use Rattle.packet_rules.specs.Write.{most_data_octets, data_octets, p_field_of, packet_bytes}
use Rattle.packet_rules.specs.Octets.{is_octet}
use Rattle.packet_outcomes.specs.Reading.{RightForm, GoodPacket}
use Rattle.packet_outcomes.specs.Writing.{InRange}
use Rattle.packet_outcomes.proofs.Octets.{power_pos, length_octets, all_octets, big_octets, big_octets_same}

same_header : (h k : PacketHeader) → h.kind ≡ k.kind → h.apid ≡ k.apid → h.flags ≡ k.flags → h.sequence ≡ k.sequence → h ≡ k
same_header h k p q r s = headers p q r s
  where
    headers : {a b c d a' b' c' d' : ℕ} → a ≡ a' → b ≡ b' → c ≡ c' → d ≡ d'
        → ◌≡◌ {A = PacketHeader} (record { kind = a; apid = b; flags = c; sequence = d }) (record { kind = a'; apid = b'; flags = c'; sequence = d' })
    headers p q r s = rw (p, q, r, s)

same_octets : (o q : TimeOctets) → o.coarse ≡ q.coarse → o.fine ≡ q.fine → o ≡ q
same_octets o q c f = pairs c f
  where
    pairs : {a b a' b' : ℕ} → a ≡ a' → b ≡ b' → ◌≡◌ {A = TimeOctets} (record { coarse = a; fine = b }) (record { coarse = a'; fine = b' })
    pairs p q = rw (p, q)

-- what reading finds in the bytes s, for a modulus m
pub record AsWritten (h : PacketHeader) (o : TimeOctets) (c m : ℕ) (s : List ℕ) : Type 0 where
  pub good : GoodPacket s
  pub header : header_in s ≡ h
  pub octets : octets_in s ≡ o
  pub end : time_end (octets_in s) ≡ time_end o
  pub ticks : ticks_in m (octets_in s) s ≡ c

module _ (h : PacketHeader) (o : TimeOctets) (c : ℕ) (d : List ℕ) (r : InRange h o) where
  abbrev s : List ℕ
  s = packet_bytes h o c d

  header_read : header_in s ≡ h
  unfolding packet_bytes octets word_at big_from bits
  header_read = same_header _ h (omega arith) (omega arith) (omega arith) (omega arith)

  octets_read : octets_in s ≡ o
  unfolding packet_bytes octets word_at big_from bits
  octets_read = same_octets _ o (omega arith) (omega arith)

  form_right : RightForm s
  unfolding packet_bytes octets word_at big_from bits
  form_right = record { version = omega arith; flag = omega arith; extension = omega arith; code = omega arith }

  -- the octets of the time
  abbrev coarse : List ℕ
  coarse = octets o.coarse (c / 256 ^ o.fine)

  abbrev fine : List ℕ
  fine = octets o.fine c

  coarse_length : length coarse ≡ o.coarse
  coarse_length = length_octets o.coarse (c / 256 ^ o.fine)

  fine_length : length fine ≡ o.fine
  fine_length = length_octets o.fine c

  pub length_bytes : length s ≡ time_end o + length d
  unfolding packet_bytes octets
  length_bytes = omega (arith, length-append coarse (fine ++ d), length-append fine d, coarse_length, fine_length)

  behind : drop time_start s ≡ coarse ++ (fine ++ d)
  unfolding packet_bytes octets
  behind = refl

  behind_coarse : drop (time_start + o.coarse) s ≡ fine ++ d
  behind_coarse = rw (← drop-drop o.coarse time_start s, behind) (drop_at coarse (fine ++ d) o.coarse coarse_length)

  pub data_bytes : drop (time_end o) s ≡ d
  data_bytes = rw (← drop-drop o.fine (time_start + o.coarse) s, behind_coarse) (drop_at fine d o.fine fine_length)

  pub are_octets : all is_octet d ≡ true → all is_octet s ≡ true
  unfolding packet_bytes
  are_octets g =
      all_append is_octet (octets 2 _) _ (all_octets 2 _)
      (all_append is_octet (octets 2 _) _ (all_octets 2 _)
      (all_append is_octet (octets 2 _) _ (all_octets 2 _)
      (all_cons is_octet (p_field_of o) _ (le-leb (p_field_of o) 255 (omega arith))
      (all_append is_octet coarse (fine ++ d) (all_octets o.coarse _) (all_append is_octet fine d (all_octets o.fine c) g)))))

  -- data that the length field can say, and a count that the octets hold, for the modulus that they count in
  module _ (few : data_octets o d ≤ most_data_octets) (m : ℕ) (right : m ≡ 256 ^ o.fine) (held : c / 256 ^ o.fine < 256 ^ o.coarse) where
    length_right : length s ≡ packet_length s
    unfolding packet_bytes octets word_at big_from
    length_right = omega (arith, length_bytes)

    end_right : time_end (octets_in s) ≡ time_end o
    end_right = ap time_end octets_read

    ticks_right : ticks_in m o s ≡ c
    unfolding ticks_in ticks round_down
    ticks_right =
        let high : take o.coarse (drop time_start s) ≡ coarse = rw behind (take_at coarse (fine ++ d) o.coarse coarse_length) in
        let low : take o.fine (drop (time_start + o.coarse) s) ≡ fine = rw behind_coarse (take_at fine d o.fine fine_length) in
        rw (
          high,
          low,
          big_octets_same o.coarse (c / 256 ^ o.fine) held,
          big_octets o.fine c,
          right,
          mul-div_cancel (c / 256 ^ o.fine * 256 ^ o.fine + c % 256 ^ o.fine) (power_pos o.fine),
        )
        (div-add-mod' c (256 ^ o.fine))

    pub as_written : AsWritten h o c m s
    as_written =
        record {
          good = record { whole = length_right; form = form_right; within = omega (arith, end_right, length_bytes) };
          header = header_read;
          octets = octets_read;
          end = end_right;
          ticks = rw octets_read ticks_right;
        }
