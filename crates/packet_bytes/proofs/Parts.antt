-- Two parts written one before the other, and the parts of a packet.
use Prim.Native.Nat.{ℕ, ◌+◌, ◌-◌, ◌/◌, ◌^◌, ◌≤◌}
use mathlib.Core.Path.{◌≡◌, refl, ◌∙◌, ap}
use mathlib.Core.List.{List, [], ◌∷◌, ◌++◌, append_assoc}
use lib.ListN.{length, length-append}
use native.Mathlib.Omega.{arith}
use Rattle.decimal.specs.Writing.{Room, Written}
use Rattle.decimal.proofs.RightToLeft.{written_length, written_append}
use Rattle.packet_rules.specs.declared.PacketHeader.{PacketHeader}
use Rattle.packet_rules.specs.declared.TimeOctets.{TimeOctets}
use Rattle.packet_rules.specs.Octets.{octets}
use Rattle.packet_rules.specs.Header.{time_end}
use Rattle.packet_rules.specs.Write.{data_octets, identification_of, sequence_control_of, p_field_of, packet_bytes}
use Rattle.packet_octets.proofs.Writing.{octets_length}

module _ (s t : List ℕ) (end : ℕ) (b : List ℕ) (r : Room (s ++ t) end b) where
  pub second_room : Room t end b
  second_room = record { before = omega (arith, length-append s t, r.before); within = r.within }

  pub first_room : (at : ℕ) (b1 : List ℕ) → Written t end at b b1 → Room s at b1
  first_room at b1 w =
      record {
        before = omega (arith, length-append s t, r.before, w.ends);
        within = omega (arith, r.within, w.ends, written_length t end at b b1 second_room w);
      }

  pub both_written : (at start : ℕ) (b1 b2 : List ℕ) → Written t end at b b1 → Written s at start b1 b2 → Written (s ++ t) end start b b2
  both_written at start b1 b2 w v = written_append s t end at start b b1 b2 r w v

-- how long a packet is, and room for it
module _ (h : PacketHeader) (o : TimeOctets) (c : ℕ) (d : List ℕ) where
  pub packet_length_lem : length (packet_bytes h o c d) ≡ time_end o + length d
  unfolding packet_bytes
  packet_length_lem =
      rw (length-append, length-append, length-append, octets_length, octets_length, octets_length)
      (rw (length-append, length-append, octets_length, octets_length) (omega arith))

  module _ (end : ℕ) (e : end ≡ 6 + (1 + o.coarse + o.fine + length d)) where
    pub packet_end : end ≡ time_end o + length d
    packet_end = omega arith

    pub packet_room : (b : List ℕ) → end ≤ length b → Room (packet_bytes h o c d) end b
    packet_room b k = record { before = omega (arith, packet_length_lem); within = k }

-- a packet in two parts, each in two: its time has so many units, its front these three words and this P-field
module _ (h : PacketHeader) (o : TimeOctets) (c : ℕ) (d : List ℕ) (units : ℕ) (eu : units ≡ c / 256 ^ o.fine) where
  abbrev data_part : List ℕ
  data_part = (octets o.coarse units ++ octets o.fine c) ++ d

  module _ (end : ℕ) (ee : end ≡ time_end o + length d) (b : List ℕ) (r : Room (packet_bytes h o c d) end b) where
    module _ (first second p : ℕ) (ef : first ≡ identification_of h) (es : second ≡ sequence_control_of h) (ep : p ≡ p_field_of o) where
      abbrev front_part : List ℕ
      front_part = (octets 2 first ++ octets 2 second) ++ (octets 2 (end - 7) ++ (p ∷ []))

      two_parts : front_part ++ data_part ≡ packet_bytes h o c d
      unfolding packet_bytes
      two_parts =
          let less : data_octets o d - 1 ≡ end - 7 = omega arith in
          rw (less, ← eu, ← ef, ← es, ← ep)
          (append_assoc (octets 2 first ++ octets 2 second) (octets 2 (end - 7) ++ (p ∷ [])) data_part
          ∙ append_assoc (octets 2 first) (octets 2 second) ((octets 2 (end - 7) ++ (p ∷ [])) ++ data_part)
          ∙ ap (λ (x : List ℕ). octets 2 first ++ (octets 2 second ++ x))
          (append_assoc (octets 2 (end - 7)) (p ∷ []) data_part
          ∙ ap (λ (x : List ℕ). octets 2 (end - 7) ++ (p ∷ x)) (append_assoc (octets o.coarse units) (octets o.fine c) d)))

      split : Room (front_part ++ data_part) end b
      split = rw two_parts r

      pub front_room : (at : ℕ) (b1 : List ℕ) → Written data_part end at b b1 → Room front_part at b1
      front_room = first_room front_part data_part end b split

      pub packet_written : (at start : ℕ) (b1 b2 : List ℕ) → Written data_part end at b b1 → Written front_part at start b1 b2 → Written (packet_bytes h o c d) end start b b2
      packet_written at start b1 b2 w v = rw two_parts at (both_written front_part data_part end b split at start b1 b2 w v)

    pub data_room : Room data_part end b
    data_room =
        let first = identification_of h in
        let second = sequence_control_of h in
        let p = p_field_of o in
        second_room (front_part first second p refl refl refl) data_part end b (split first second p refl refl refl)
