-- Writing answers exactly where its named facts hold.
use Prim.Native.Nat.{ℕ, ◌^◌}
use mathlib.Core.Path.{◌≡◌, refl, sym, ◌∙◌}
use mathlib.Core.Bool.{true}
use mathlib.Core.List.{List}
use lib.ListN.{length}
use borrow.Author.Tests.{le-leb, lt-ltb, eq-eqb, leb-true, ltb-true, eqb-true}
use native.Mathlib.Omega.{arith}
use Rattle.base.specs.Scans.{all_of}
use Rattle.base.proofs.Tests.{and_both, all_of_head, all_of_tail}
use Rattle.rules.specs.declared.Layout.{Layout}
use Rattle.rules.specs.Answer.{answer, unless}
use Rattle.rules.specs.Partitions.{Partitions}
use Rattle.rules.specs.Print.{fitting}
use Rattle.rules.proofs.Answers.{payload, unless-test, unless-rest}
use Rattle.packet_rules.specs.declared.PacketHeader.{PacketHeader}
use Rattle.packet_rules.specs.declared.TimeOctets.{TimeOctets}
use Rattle.packet_rules.specs.Write.{writable, packet_bytes, packet_of, write_packet}
use Rattle.packet_outcomes.specs.RoundTrip.{Content, write, clock_count}
use Rattle.packet_outcomes.specs.Writing.{InRange, Writable, Writing}
use Rattle.packet_outcomes.proofs.Accepted.{good_clock, clock_accepted}
use Rattle.packet_outcomes.proofs.Header.{length_bytes}

module _ (h : PacketHeader) (o : TimeOctets) (m : ℕ) where
  ranges : writable h o m ≡ true → InRange h o × (m ≡ 256 ^ o.fine)
  unfolding writable
  ranges t =
      let t1 = all_of_tail _ _ t in
      let t2 = all_of_tail _ _ t1 in
      let t3 = all_of_tail _ _ t2 in
      let t4 = all_of_tail _ _ t3 in
      let t5 = all_of_tail _ _ t4 in
      let t6 = all_of_tail _ _ t5 in
      let t7 = all_of_tail _ _ t6 in (
        record {
          coarse_low = leb-true _ _ (all_of_head _ _ t);
          coarse_high = leb-true _ _ (all_of_head _ _ t1);
          fine = leb-true _ _ (all_of_head _ _ t2);
          kind = leb-true _ _ (all_of_head _ _ t4);
          apid = leb-true _ _ (all_of_head _ _ t5);
          flags = leb-true _ _ (all_of_head _ _ t6);
          sequence = leb-true _ _ (all_of_head _ _ t7);
        },
        eqb-true _ _ (all_of_head _ _ t3),
      )

  ranges_accepted : InRange h o → m ≡ 256 ^ o.fine → writable h o m ≡ true
  unfolding writable all_of
  ranges_accepted r e =
      and_both (le-leb _ _ r.coarse_low)
      (and_both (le-leb _ _ r.coarse_high)
      (and_both (le-leb _ _ r.fine)
      (and_both (eq-eqb _ _ e)
      (and_both (le-leb _ _ r.kind) (and_both (le-leb _ _ r.apid) (and_both (le-leb _ _ r.flags) (and_both (le-leb _ _ r.sequence) refl)))))))

module _ (l : Layout) (p : Partitions) (w : Content) (room : ℕ) where
  abbrev bytes : List ℕ
  bytes = packet_bytes w.header w.octets (clock_count p w) w.payload

  pub facts : (s : List ℕ) → write l p w room ≡ answer s → Writable l p w room × (s ≡ bytes)
  unfolding write_packet packet_of fitting
  facts s h =
      let clock = good_clock _ s l p h in
      let h1 = clock.1 in
      let h2 = unless-rest 26 _ _ s h1 in
      let h3 = unless-rest 25 _ _ s h2 in
      let h4 = unless-rest 12 _ _ s h3 in
      let h5 = unless-rest 9 _ _ s h4 in
      let r = ranges _ _ _ (unless-test 26 _ _ s h1) in (
        record {
          clock = clock.0;
          ranges = r.0;
          modulus = r.1;
          few = leb-true _ _ (unless-test 25 _ _ s h2);
          within = leb-true _ _ (unless-test 12 _ _ s h3);
          held = ltb-true _ _ (unless-test 9 _ _ s h4);
          fits = omega (arith, leb-true (length bytes) room (unless-test 16 _ _ s h5), length_bytes w.header w.octets (clock_count p w) w.payload r.0);
        },
        sym (payload (unless-rest 16 _ _ s h5)),
      )

  accepted : Writable l p w room → write l p w room ≡ answer bytes
  unfolding write_packet packet_of fitting unless
  accepted k =
      clock_accepted _ l p k.clock
      ∙ rw (
        ranges_accepted _ _ _ k.ranges k.modulus,
        le-leb _ _ k.few,
        le-leb _ _ k.within,
        lt-ltb _ _ k.held,
        le-leb (length bytes) room (omega (arith, k.fits, length_bytes w.header w.octets (clock_count p w) w.payload k.ranges)),
      )

pub writing : Writing
writing = record { answered = λ l p w room s. (facts l p w room s, λ k. accepted l p w room k.0 ∙ rw k.1) }
