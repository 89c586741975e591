-- What each way out of reading a packet says of the answer.
use Rattle.rules.specs.declared.refusal.Refusal.{Refusal}
use Rattle.std.specs.Prelude.{Result, Ok, Err}
use Prim.Native.Nat.{ℕ, ◌≤◌, min}
use mathlib.Core.Path.{◌≡◌, sym}
use mathlib.Core.List.{List}
use native.Mathlib.Nat.{lt_of_lt_of_le}
use Rattle.rules.specs.Limits.{largest_p, largest_msf}
use Rattle.rules.specs.declared.Layout.{Layout}
use Rattle.rules.specs.Answer.{Answer, answer, refused, and_then, as_numbered, answer_of}
use Rattle.rules.specs.Partitions.{Partitions}
use Rattle.rules.specs.Stamp.{encode_first}
use Rattle.tables.specs.declared.Basis.{Basis}
use Rattle.encode.proofs.Sums.{listed}
use Rattle.rules.specs.Layout.{product_of}
use Rattle.packet_rules.specs.declared.PacketHeader.{PacketHeader}
use Rattle.packet_rules.specs.declared.TimeOctets.{TimeOctets}
use Rattle.packet_rules.specs.declared.Packet.{Packet}
use Rattle.packet_rules.specs.Header.{header_in, time_end}
use Rattle.packet_rules.specs.Read.{second_modulus, ticks_in, packet_at, read_packet}
use Rattle.packet_clock.specs.Clock.{clock_basis}
use Rattle.packet_clock.proofs.Accepted.{clock_refused, clock_facts, clock_accepted}
use Rattle.packet_read.specs.Form.{TimeThere, Held}
use Rattle.packet_read.proofs.Forms.{checked, form_refused, form_octets, form_accepted}
use Rattle.packet_read.proofs.Ticks.{cap_same}

-- by the partition that holds the count
module _ (p : Partitions) (h : Held p) (s : List ℕ) (t c : ℕ) (ec : c ≡ min t largest_p) (r : Result ℕ Refusal) (er : answer_of r ≡ encode_first p c) where
  pub held_by : (e : ℕ) → r ≡ Ok e → (head : PacketHeader) → head ≡ header_in s → (o : TimeOctets) → TimeThere o s → (end : ℕ) → end ≡ time_end o
      → answer (record { header = head; octets = o; payload_at = end; count = c; encoded = e }) ≡ packet_at p s t
  unfolding packet_at and_then
  held_by e q head eh o there end ee = rw (eh, ee, there.octets) (sym (rw (← (cap_same p h s t), ← ec, ← er, q)))

  pub held_by_none : (k : Refusal) → r ≡ Err k → refused (as_numbered k) ≡ packet_at p s t
  unfolding packet_at and_then
  held_by_none k q = sym (rw (← (cap_same p h s t), ← ec, ← er, q))

module _ (l : Layout) (p : Partitions) (s : List ℕ) (f : Result TimeOctets Refusal) (e : answer_of f ≡ checked s) where
  pub read_form_refused : (k : Refusal) → f ≡ Err k → refused (as_numbered k) ≡ read_packet l p s
  unfolding read_packet
  read_form_refused k h = form_refused s f e k _ h

  module _ (o : TimeOctets) (h : f ≡ Ok o) (q : Result Basis Refusal) (v : answer_of q ≡ clock_basis l p) where
    pub read_clock_refused : (k : Refusal) → q ≡ Err k → refused (as_numbered k) ≡ read_packet l p s
    unfolding read_packet
    read_clock_refused k g = form_accepted s f e o h _ _ (clock_refused l p q v k _ g)

    module _ (b : Basis) (g : q ≡ Ok b) where
      pub clock_held : Held p
      clock_held =
          let facts = (clock_facts l p q v b g).stamps in
          record { listed = listed (product_of l) p facts.partitions; small = λ i there. lt_of_lt_of_le (facts.partitions.each i there).in-range facts.layout.product }

      pub modulus_small : second_modulus l ≤ largest_msf
      modulus_small = (clock_facts l p q v b g).modulus

      pub read_counted : (m : ℕ) → m ≡ second_modulus l → (x : Answer Packet) → x ≡ packet_at p s (ticks_in m o s) → x ≡ read_packet l p s
      unfolding read_packet
      read_counted m em x u = form_accepted s f e o h _ _ (clock_accepted l p q v b g _ _ (rw (form_octets s f e o h, em) at u))
