-- A dump is cut into packets and a rest in one way only.
use Prim.Native.Nat.{ℕ, zero, suc, ◌≤◌}
use mathlib.Core.Path.{◌≡◌, refl, sym, ap, ◌∙◌}
use mathlib.Core.Bool.{true, false}
use mathlib.Core.List.{List, [], ◌∷◌, ◌++◌, flatten, append_assoc}
use lib.Dec.{eqb}
use lib.ListN.{length, take, drop, length-append, length-drop, take-append-drop}
use lib.Seq.{length-take-le}
use borrow.Author.Tests.{eq-eqb, eqb-true}
use native.Mathlib.Omega.{arith}
use Rattle.base.proofs.Tests.{by_test, not_both, and_both, and_first, and_second}
use Rattle.packet_rules.specs.Header.{packet_length}
use Rattle.packet_rules.specs.Walk.{is_whole}
use Rattle.packet_rules.proofs.Lengths.{whole, not_whole, whole_length, length_more}
use Rattle.packet_dump.specs.Packets.{first_packets, behind_packets, packets_in, rest_in, all_packets, Cuts}
use Rattle.packet_dump.proofs.Lists.{flatten_append, same_first, same_second}

-- what stands at the front of a dump with a whole packet is a packet
module _ (s : List ℕ) (w : is_whole s ≡ true) where
  pub packet_length_lem : length (take (packet_length s) s) ≡ packet_length s
  packet_length_lem = length-take-le (packet_length s) s (whole_length s w)

  front_packet : eqb (length (take (packet_length s) s)) (packet_length (take (packet_length s) s)) ≡ true
  front_packet = eq-eqb _ _ (packet_length_lem ∙ same)
    where
      same : packet_length s ≡ packet_length (take (packet_length s) s)
      same = ap packet_length (sym (take-append-drop (packet_length s) s)) ∙ length_more (take (packet_length s) s) (drop (packet_length s) s) (omega (arith, packet_length_lem))

  pub cuts_cons : {ps : List (List ℕ)} {r : List ℕ} → Cuts (drop (packet_length s) s) ps r → Cuts s (take (packet_length s) s ∷ ps) r
  unfolding all_packets flatten
  cuts_cons c = record { bytes = rw (append_assoc, c.bytes) (take-append-drop (packet_length s) s); each = and_both front_packet c.each; none = c.none }

pub cuts_nil : (s : List ℕ) → is_whole s ≡ false → Cuts s [] s
unfolding all_packets flatten
cuts_nil s h = record { bytes = refl; each = refl; none = h }

-- of packets, the first and the others
module _ (p : List ℕ) (ps : List (List ℕ)) (h : all_packets (p ∷ ps) ≡ true) where
  first_is : eqb (length p) (packet_length p) ≡ true
  unfolding all_packets
  first_is = and_first (eqb (length p) (packet_length p)) (all_packets ps) h

  others_are : all_packets ps ≡ true
  unfolding all_packets
  others_are = and_second (eqb (length p) (packet_length p)) (all_packets ps) h

all_packets_lem : (ps qs : List (List ℕ)) → all_packets ps ≡ true → all_packets qs ≡ true → all_packets (ps ++ qs) ≡ true
unfolding all_packets
all_packets_lem [] qs h k = k
all_packets_lem (p ∷ ps) qs h k =
    and_both (first_is p ps h) (all_packets_lem ps qs (others_are p ps h) k)

-- more bytes behind: what was left is cut on
pub cuts_join : {s t : List ℕ} (u : List ℕ) {ps qs : List (List ℕ)} {r : List ℕ} → Cuts s ps t → Cuts (t ++ u) qs r → Cuts (s ++ u) (ps ++ qs) r
cuts_join {s} {t} u {ps} {qs} {r} c d =
    record {
      bytes = rw (flatten_append, append_assoc, d.bytes, ← append_assoc, c.bytes);
      each = all_packets_lem ps qs c.each d.each;
      none = d.none;
    }

-- a packet, with anything behind it, is whole and as long as it is
module _ (p t : List ℕ) (h : eqb (length p) (packet_length p) ≡ true) where
  packet_is : length p ≡ packet_length p
  packet_is = eqb-true (length p) (packet_length p) h

  pub first_length : packet_length (p ++ t) ≡ length p
  first_length = length_more p t (omega (arith, packet_is)) ∙ sym packet_is

  pub first_whole : is_whole (p ++ t) ≡ true
  first_whole = whole (p ++ t) (omega (arith, first_length, length-append p t))

pub one_cut : (s : List ℕ) (ps qs : List (List ℕ)) (r t : List ℕ) → Cuts s ps r → Cuts s qs t → (ps ≡ qs) × (r ≡ t)
unfolding flatten
one_cut s [] [] r t c d = (refl, c.bytes ∙ sym d.bytes)
one_cut s [] (q ∷ qs) r t c d =
    absurd (not_both (first_whole q (flatten qs ++ t) (first_is q qs d.each)) (rw (← append_assoc, d.bytes, ← c.bytes) c.none))
one_cut s (p ∷ ps) [] r t c d =
    absurd (not_both (first_whole p (flatten ps ++ r) (first_is p ps c.each)) (rw (← append_assoc, c.bytes, ← d.bytes) d.none))
one_cut s (p ∷ ps) (q ∷ qs) r t c d =
    let cb : p ++ (flatten ps ++ r) ≡ s = rw (← append_assoc) c.bytes in
    let db : q ++ (flatten qs ++ t) ≡ s = rw (← append_assoc) d.bytes in
    let e : p ++ (flatten ps ++ r) ≡ q ++ (flatten qs ++ t) = cb ∙ sym db in
    let l : length p ≡ length q = sym (first_length p (flatten ps ++ r) (first_is p ps c.each)) ∙ (rw e (first_length q (flatten qs ++ t) (first_is q qs d.each))) in
    let rest =
    one_cut (flatten qs ++ t) ps qs r t
    (record { bytes = same_second p q _ _ e l; each = others_are p ps c.each; none = c.none })
    (record { bytes = refl; each = others_are q qs d.each; none = d.none })
    in
    (rw (same_first p q _ _ e l, rest.0), rest.1)

-- as many turns as bytes are enough
cuts_within : (k : ℕ) (s : List ℕ) → length s ≤ k → Cuts s (first_packets k s) (behind_packets k s)
unfolding first_packets behind_packets
cuts_within zero s h = cuts_nil s (not_whole s (omega arith))
cuts_within (suc k) s h =
    by_test (is_whole s)
    (λ t. rw t (cuts_cons s t (cuts_within k (drop (packet_length s) s) (omega (arith, length-drop (packet_length s) s, whole_length s t)))))
    (λ f. rw f (cuts_nil s f))

pub cuts_in : (s : List ℕ) → Cuts s (packets_in s) (rest_in s)
cuts_in s = cuts_within (length s) s (omega arith)

pub only_cut : (s : List ℕ) (ps : List (List ℕ)) (r : List ℕ) → Cuts s ps r → (ps ≡ packets_in s) × (r ≡ rest_in s)
only_cut s ps r c = one_cut s ps (packets_in s) r (rest_in s) c (cuts_in s)
