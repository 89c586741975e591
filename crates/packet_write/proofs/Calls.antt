-- What each way out of writing a packet says of the answer and of the buffer.
use Rattle.rules.specs.declared.refusal.Refusal.TheVariants as R
use Rattle.rules.specs.declared.refusal.Refusal.{Refusal}
use Rattle.std.specs.Prelude.{Result, Ok, Err}
use Prim.Native.Nat.{ℕ, ◌+◌, ◌-◌, ◌/◌, ◌^◌, ◌≤◌, ◌<◌}
use mathlib.Core.Path.{◌≡◌, sym, ◌∙◌}
use mathlib.Core.Bool.{Bool, true, false, not}
use mathlib.Core.List.{List}
use lib.Dec.{leb}
use lib.ListN.{length}
use native.Mathlib.Nat.{div-eq_of_lt, lt-div-mul-add, one-le-pow}
use native.Mathlib.Omega.{arith}
use borrow.Author.Tests.{lt-ltb, le-ltb, le-leb, lt-leb, leb-true, leb-false, not-true, not-false}
use Rattle.base.proofs.Tests.{by_test}
use Rattle.rules.specs.declared.Layout.{Layout}
use Rattle.rules.specs.Answer.{Answer, refused, refuse, unless, as_numbered, answer_of}
use Rattle.rules.specs.Layout.{product_of}
use Rattle.rules.specs.Partitions.{Partitions, total_of}
use Rattle.rules.specs.Print.{partition_of, decoded_in, fitting, length_printed, buffer_after}
use Rattle.tables.specs.declared.Basis.{Basis}
use Rattle.decimal.specs.Writing.{Written}
use Rattle.buffer_print.specs.Printed.{Printed}
use Rattle.buffer_print.proofs.Fitting.{print_fits, print_short}
use Rattle.decode.specs.Decodable.{Decodable}
use Rattle.decode.proofs.Accepted.{decodable}
use Rattle.packet_rules.specs.declared.PacketHeader.{PacketHeader}
use Rattle.packet_rules.specs.declared.TimeOctets.{TimeOctets}
use Rattle.packet_rules.specs.Read.{second_modulus}
use Rattle.packet_rules.specs.Write.{most_data_octets, data_octets, writable, packet_bytes, packet_of, write_packet}
use Rattle.packet_clock.specs.Clock.{clock_basis}
use Rattle.packet_clock.proofs.Accepted.{clock_refused, clock_facts, clock_accepted}
use Rattle.packet_ranges.specs.Octets.{OctetsFacts}
use Rattle.packet_ranges.proofs.Writable.{writable_octets}
use Rattle.packet_bytes.proofs.Parts.{packet_length_lem}
use Rattle.packet_write.specs.Ready.{Ready}

-- a refusal leaves the buffer
refused_printed : (a : Answer (List ℕ)) (k : Refusal) (b : List ℕ) → a ≡ refused (as_numbered k) → Printed a (Err k) b b
unfolding length_printed buffer_after
refused_printed a k b e = record { answers = rw e; bytes = rw e }

-- x has n octets and no more exactly where nothing is left above them
above_none : (x n : ℕ) → x / 256 ^ n ≡ 0 → x < 256 ^ n
above_none x n h = let below = rw h at (lt-div-mul-add {a = x} {b = 256 ^ n} (one-le-pow n 256 (omega arith))) in omega (arith, below)

above_some : (x n : ℕ) → (x / 256 ^ n ≡ 0 → ⊥) → 256 ^ n ≤ x
above_some x n h = by_test (leb (256 ^ n) x) (λ t. leb-true (256 ^ n) x t) (λ f. absurd (h (div-eq_of_lt (leb-false (256 ^ n) x f))))

module _ (p : Partitions) (h : PacketHeader) (o : TimeOctets) (e : ℕ) (d : List ℕ) (room total : ℕ) (facts : OctetsFacts o) (ready : Ready total p) where
  pub too_many_octets : (b : List ℕ) → most_data_octets - (1 + o.coarse + o.fine) < length d → Printed (packet_of p h o e d room) (Err R.PacketLength) b b
  unfolding packet_of unless
  too_many_octets b x = refused_printed _ R.PacketLength b (rw (lt-leb (data_octets o d) most_data_octets (omega (arith, facts.coarse, facts.fine))))

  module _ (few : length d ≤ most_data_octets - (1 + o.coarse + o.fine)) where
    octets_good : leb (data_octets o d) most_data_octets ≡ true
    octets_good = le-leb (data_octets o d) most_data_octets (omega (arith, facts.coarse, facts.fine))

    pub beyond_total : (b : List ℕ) → total < e → Printed (packet_of p h o e d room) (Err R.BeyondTotal) b b
    unfolding packet_of unless
    beyond_total b x = refused_printed _ R.BeyondTotal b (rw (octets_good, lt-leb e (total_of p) (rw ready.total_is at x)))

    module _ (held : e ≤ total) where
      within : e ≤ total_of p
      within = rw ready.total_is at held

      pub count_decodable : Decodable p e
      count_decodable = ready.decodable e within

      module _ (c units top : ℕ) (ec : c ≡ decoded_in p e (partition_of p e)) (eu : units ≡ c / 256 ^ o.fine) (et : top ≡ units / 256 ^ o.coarse) where
        pub coarse_too_large : (b : List ℕ) → (top ≡ 0 → ⊥) → Printed (packet_of p h o e d room) (Err R.CountTooLarge) b b
        unfolding packet_of unless
        coarse_too_large b x =
            refused_printed _ R.CountTooLarge b
            (rw (octets_good, le-leb e (total_of p) within, ← ec, ← eu, le-ltb units (256 ^ o.coarse) (above_some units o.coarse (λ z. x (et ∙ z)))))

        module _ (small : top ≡ 0) where
          goes_on : packet_of p h o e d room ≡ fitting room (packet_bytes h o c d)
          unfolding packet_of unless
          goes_on = rw (octets_good, le-leb e (total_of p) within, ← ec, ← eu, lt-ltb units (256 ^ o.coarse) (above_none units o.coarse (sym et ∙ small)))

          module _ (end : ℕ) (ee : end ≡ 6 + (1 + o.coarse + o.fine + length d)) where
            long : end ≡ length (packet_bytes h o c d)
            long = omega (arith, ee, packet_length_lem h o c d)

            pub buffer_short : (b : List ℕ) → room < end → Printed (packet_of p h o e d room) (Err R.BufferTooShort) b b
            buffer_short b x = rw goes_on (print_short (packet_bytes h o c d) end long room b x)

            pub packet_fits : (b b1 : List ℕ) (start : ℕ) → end ≤ room → Written (packet_bytes h o c d) end start b b1 → Printed (packet_of p h o e d room) (Ok end) b b1
            packet_fits b b1 start x w = rw goes_on (print_fits (packet_bytes h o c d) end long room start b b1 x w)

module _ (l : Layout) (p : Partitions) (h : PacketHeader) (o : TimeOctets) (e : ℕ) (d : List ℕ) (room : ℕ) (q : Result Basis Refusal) (v : answer_of q ≡ clock_basis l p) where
  clock_bad : (k : Refusal) (b : List ℕ) → q ≡ Err k → Printed (write_packet l p h o e d room) (Err k) b b
  unfolding write_packet
  clock_bad k b g = refused_printed _ k b (sym (clock_refused l p q v k _ g))

  pub clock_bad_answer : (k : Refusal) → q ≡ Err k → refused (as_numbered k) ≡ length_printed (write_packet l p h o e d room)
  clock_bad_answer k g = (clock_bad k d g).answers

  pub clock_bad_leaves : (k : Refusal) (b : List ℕ) → q ≡ Err k → b ≡ buffer_after (write_packet l p h o e d room) b
  clock_bad_leaves k b g = (clock_bad k b g).bytes

  module _ (basis : Basis) (g : q ≡ Ok basis) where
    pub ready_there : Ready basis.total p
    ready_there =
        let facts = (clock_facts l p q v basis g).stamps in
        record { total_is = facts.total; decodable = λ x held. decodable (product_of l) p x facts.layout.product facts.partitions held }

    module _ (t : Bool) (m : ℕ) (em : m ≡ second_modulus l) (et : t ≡ writable h o m) where
      out_of_range : (b : List ℕ) → not t ≡ true → Printed (write_packet l p h o e d room) (Err R.PacketForm) b b
      unfolding write_packet unless
      out_of_range b n = refused_printed _ R.PacketForm b (sym (clock_accepted l p q v basis g _ _ (rw (← em, ← et, not-true t n))))

      pub out_of_range_answer : not t ≡ true → refuse 26 ≡ length_printed (write_packet l p h o e d room)
      out_of_range_answer n = (out_of_range d n).answers

      pub out_of_range_leaves : (b : List ℕ) → not t ≡ true → b ≡ buffer_after (write_packet l p h o e d room) b
      out_of_range_leaves b n = (out_of_range b n).bytes

      pub octets_there : not t ≡ false → OctetsFacts o
      octets_there n = writable_octets h o m (sym et ∙ not-false t n)

      packet_printed : (r : Result ℕ Refusal) (b b1 : List ℕ) → not t ≡ false → Printed (packet_of p h o e d room) r b b1 → Printed (write_packet l p h o e d room) r b b1
      unfolding write_packet unless
      packet_printed r b b1 n w =
          let same : packet_of p h o e d room ≡ write_packet l p h o e d room = clock_accepted l p q v basis g _ _ (rw (← em, ← et, not-false t n)) in
          rw (← same) w

      pub packet_answer : (r : Result ℕ Refusal) (b b1 : List ℕ) → not t ≡ false → Printed (packet_of p h o e d room) r b b1 → answer_of r ≡ length_printed (write_packet l p h o e d room)
      packet_answer r b b1 n w = (packet_printed r b b1 n w).answers

      pub packet_bytes_lem : (r : Result ℕ Refusal) (b b1 : List ℕ) → not t ≡ false → Printed (packet_of p h o e d room) r b b1 → b1 ≡ buffer_after (write_packet l p h o e d room) b
      packet_bytes_lem r b b1 n w = (packet_printed r b b1 n w).bytes
