-- A written packet is read as what was written.
use Prim.Native.Nat.{ℕ, ◌+◌, ◌<◌}
use mathlib.Core.Path.{◌≡◌, refl, sym, ap, ◌∙◌}
use mathlib.Core.List.{List}
use mathlib.Core.Logic.{◌⊎◌, inl, inr, ⊎_elim}
use lib.Dec.{ltb}
use lib.ListN.{length}
use borrow.Author.Tests.{ltb-true, ltb-false}
use native.Mathlib.Omega.{arith}
use Rattle.base.proofs.Tests.{by_test}
use Rattle.rules.specs.declared.Layout.{Layout}
use Rattle.rules.specs.Answer.{answer, and_then}
use Rattle.rules.specs.Layout.{product_of}
use Rattle.rules.specs.Partitions.{Partitions}
use Rattle.rules.specs.Facts.{PartitionsFacts}
use Rattle.rules.specs.Stamp.{encoded_in, encode_first}
use Rattle.rules.specs.Print.{partition_of, decoded_in}
use Rattle.rules.proofs.Answers.{payload}
use Rattle.rules.proofs.Accepted.{partitions_facts}
use Rattle.roundtrip.specs.Unnamed.{Holds, FirstToHold}
use Rattle.roundtrip.proofs.Encoded.{before_next, before_up, Lies, lies, Decoded, decoded}
use Rattle.roundtrip.proofs.Unnamed.{holds_fact, first_or_none}
use Rattle.roundtrip.proofs.Buffers.{front}
use Rattle.packet_rules.specs.Read.{second_modulus, packet_at, read_packet}
use Rattle.packet_rules.specs.Write.{packet_bytes}
use Rattle.packet_outcomes.specs.RoundTrip.{Content, write, clock_count, back_with, NoEarlierHolds, Meets, Back, PacketReadsBack, CallReadsBack}
use Rattle.packet_outcomes.specs.Writing.{Writable}
use Rattle.packet_outcomes.proofs.Accepted.{packet_accepted, clock_accepted}
use Rattle.packet_outcomes.proofs.Header.{length_bytes, data_bytes, are_octets, as_written}
use Rattle.packet_outcomes.proofs.Written.{facts}

module _ (l : Layout) (p : Partitions) (w : Content) (room : ℕ) (k : Writable l p w room) where
  abbrev c : ℕ
  c = clock_count p w

  abbrev row : ℕ
  row = partition_of p w.encoded

  abbrev bytes : List ℕ
  bytes = packet_bytes w.header w.octets c w.payload

  rows : PartitionsFacts (product_of l) p
  rows = partitions_facts (product_of l) p k.clock.partitions

  there : Lies p w.encoded row
  there = lies p w.encoded rows.some k.within

  count : Decoded (product_of l) p w.encoded row
  count = decoded (product_of l) p w.encoded row (rows.each row there.below) there

  held : Holds p c row
  held = holds_fact p c row there.below count.held

  -- the encoded count is that of the first partition that holds the clock's count
  read_bytes : (e : ℕ) → encode_first p c ≡ answer e → read_packet l p bytes ≡ answer (back_with p w e)
  unfolding read_packet packet_at and_then
  read_bytes e h =
      let f = as_written w.header w.octets c w.payload k.ranges k.few (second_modulus l) k.modulus k.held in
      packet_accepted _ bytes f.good ∙ (clock_accepted _ l p k.clock ∙ rw (f.ticks, h, f.header, f.end, f.octets))

  record Encoded : Type 0 where
    partition : ℕ
    first : FirstToHold p c partition
    encoded : encode_first p c ≡ answer (encoded_in p c partition)

  encoded_first : Encoded
  encoded_first = ⊎_elim (λ f. record { partition = f.0; first = f.1; encoded = f.2 }) (λ n. absurd (n.0 row held)) (first_or_none p c)

  same_partition : (i : ℕ) → FirstToHold p c i → NoEarlierHolds p w → i ≡ row
  same_partition i f n =
      let low : i < row → ⊥ = λ b. n i (omega (arith, b)) f.it in
      let high : row < i → ⊥ = λ b. f.earlier row b held in
      omega arith

  -- an earlier partition that gives the same encoded count is the one before, and both have the count as an end
  meets : (i : ℕ) → FirstToHold p c i → encoded_in p c i ≡ w.encoded → i < row → Meets p c i row
  unfolding encoded_in decoded_in
  meets i f e b =
      let next = before_next p i in
      let up = before_up p (i + 1) row (omega arith) in
      record { next = near; end = omega (arith, f.it.from, f.it.to, there.from); start = omega (arith, f.it.to, there.from) }
    where
      near : i + 1 ≡ row
      near =
          by_test (ltb (i + 1) row)
          (λ t. absurd (omega (
            arith,
            before_next p i,
            before_next p (i + 1),
            before_up p (i + 1 + 1) row (omega (arith, ltb-true (i + 1) row t)),
            (rows.each (i + 1) (omega (arith, there.below, ltb-true (i + 1) row t))).ordered,
            f.it.to,
            there.from,
          )))
          (λ n. omega (arith, ltb-false (i + 1) row n))

  only_there : (i : ℕ) → FirstToHold p c i → encoded_in p c i ≡ w.encoded → NoEarlierHolds p w ⊎ Meets p c i row
  only_there i f e =
      by_test (ltb i row) (λ t. inr (meets i f e (ltb-true i row t))) (λ n. inl (λ j b. f.earlier j (omega (arith, ltb-false i row n))))

  back : Back l p w bytes
  unfolding encoded_in
  back =
      let r = k.ranges in
      let f = encoded_first in
      record {
        bytes = refl;
        size = length_bytes w.header w.octets c w.payload r;
        short = omega (arith, length_bytes w.header w.octets c w.payload r, k.few);
        are_octets = are_octets w.header w.octets c w.payload r;
        given = data_bytes w.header w.octets c w.payload r;
        partition = f.partition;
        first = f.first;
        read = read_bytes _ f.encoded;
        same = λ n. read_bytes w.encoded (f.encoded ∙ rw (same_partition f.partition f.first n, count.encoded));
        only = λ h. only_there f.partition f.first (ap (λ q. q.encoded) (payload (sym (read_bytes _ f.encoded) ∙ h)));
      }

pub packet_reads_back : PacketReadsBack
packet_reads_back l p w room s h = let k = facts l p w room s h in rw k.1 (back l p w room k.0)

pub call_reads_back : CallReadsBack
call_reads_back l p w buffer n h = packet_reads_back l p w (length buffer) _ (front (write l p w (length buffer)) buffer n h)
