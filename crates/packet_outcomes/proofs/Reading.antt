-- What an answer and each refusal of reading say.
use Prim.Native.Nat.{ℕ, ◌+◌, ◌*◌, ◌^◌, ◌<◌}
use mathlib.Core.Path.{◌≡◌, refl, sym, subst, ◌∙◌}
use mathlib.Core.Bool.{false}
use mathlib.Core.List.{List, [], ◌∷◌}
use mathlib.Core.Logic.{◌⊎◌, ◌↔◌, inl, inr, ⊎_elim}
use lib.Dec.{leb, eqb}
use lib.ListN.{length}
use borrow.Author.Tests.{lt-leb, leb-true, leb-false, eq-eqb, ne_eqb, eqb-true, eqb-false}
use native.Mathlib.Nat.{add-mul, mul_right_comm, mul-add-div_right}
use native.Mathlib.Omega.{arith}
use Rattle.base.specs.Scans.{among}
use Rattle.base.specs.Rounding.{round_down}
use Rattle.base.proofs.Tests.{by_test, not_both}
use Rattle.rules.specs.declared.Layout.{Layout}
use Rattle.rules.specs.Answer.{Answer, answer, refuse, unless, and_then}
use Rattle.rules.specs.Layout.{layout_ok, product_of}
use Rattle.rules.specs.Partitions.{Partitions}
use Rattle.rules.specs.Stamp.{encoded_in}
use Rattle.rules.proofs.Accepted.{partitions_facts}
use Rattle.rules.proofs.Answers.{payload, not_answer}
use Rattle.outcomes.specs.Refusals.{OnlyRefuses}
use Rattle.outcomes.proofs.Ladder.{rung, rung_at}
use Rattle.outcomes.proofs.StampWithin.{encoded_within}
use Rattle.roundtrip.specs.Unnamed.{FirstToHold, NoneHolds}
use Rattle.roundtrip.proofs.Unnamed.{holds_test, first_or_none}
use Rattle.packet_rules.specs.declared.Packet.{Packet}
use Rattle.packet_rules.specs.Header.{header_in, octets_in, time_end, packet_length}
use Rattle.packet_rules.specs.Read.{form_ok, accepted_packet, accepted_clock, ticks, packet_at, read_packet}
use Rattle.packet_outcomes.specs.Refusals.{packet_place}
use Rattle.packet_outcomes.specs.Reading.{RightForm, RightLength, GoodPacket, GoodClock, packet_ticks, ReadAs, Reading}
use Rattle.packet_outcomes.proofs.Octets.{power_pos}
use Rattle.packet_outcomes.proofs.Accepted.{right_form, form_accepted, packet_accepted, clock_accepted, good_packet, good_clock}
use Rattle.packet_outcomes.proofs.Rungs.{at_or_past, past, past_at, outside}
use Rattle.packet_outcomes.proofs.Refusals.{packet_only}

-- what follows a packet refuses neither 25 nor 26
past_packet : {A : Type 0} (n : ℕ) (a : Answer A) (s : List ℕ) → (25 ≡ n → ⊥) → (26 ≡ n → ⊥) → accepted_packet s a ≡ refuse n → GoodPacket s × (a ≡ refuse n)
unfolding accepted_packet
past_packet n a s f g h =
    let w = past 25 _ _ f h in
    let v = past 26 _ _ g w.1 in
    let u = past 25 _ _ f v.1 in
    (record { whole = eqb-true _ _ w.0; form = right_form s v.0; within = leb-true _ _ u.0 }, u.1)

module _ (l : Layout) (p : Partitions) (s : List ℕ) where
  abbrev c : ℕ
  c = packet_ticks l s

  abbrev found : ℕ → Packet
  found e = record { header = header_in s; octets = octets_in s; payload_at = time_end (octets_in s); count = c; encoded = e }

  -- behind the tables
  first_packet : ((i : ℕ) × FirstToHold p c i × (packet_at p s c ≡ answer (found (encoded_in p c i)))) ⊎ (NoneHolds p c × (packet_at p s c ≡ refuse 11))
  unfolding packet_at and_then
  first_packet = ⊎_elim (λ w. inl (w.0, w.1, rw w.2)) (λ w. inr (w.0, rw w.1)) (first_or_none p c)

  read_as : GoodPacket s → GoodClock l p → (i : ℕ) → FirstToHold p c i → ReadAs l p s (found (encoded_in p c i))
  unfolding encoded_in
  read_as g t i f =
      let row = (partitions_facts (product_of l) p t.partitions).each i f.it.there in
      record {
        packet = g;
        clock = t;
        header = refl;
        octets = refl;
        payload_at = refl;
        payload_within = g.within;
        count = refl;
        below = omega (arith, row.in-range, f.it.to);
        partition = i;
        first = f;
        encoded = refl;
        encoded_within = encoded_within p c i f.it.there (holds_test p c i f.it);
      }

  answered : (k : Packet) → read_packet l p s ≡ answer k → ReadAs l p s k
  unfolding read_packet
  answered k h =
      let g = good_packet _ k s h in
      let t = good_clock _ k l p g.1 in
      ⊎_elim (λ w. subst (ReadAs l p s) (payload (sym w.2 ∙ t.1)) (read_as g.0 t.0 w.0 w.1)) (λ w. absurd (not_answer (sym w.1 ∙ t.1))) first_packet

  -- the tables refuse with 1 and 2, what follows with 11
  abbrev behind : Answer Packet
  behind = accepted_clock l p (packet_at p s c)

  behind_only : OnlyRefuses packet_place (1 ∷ 2 ∷ 11 ∷ []) behind
  unfolding packet_place among
  behind_only = rung 1 _ refl refl (rung 1 _ refl refl (rung_at 2 _ refl refl (packet_only refl refl p s c)))

  another_length : read_packet l p s ≡ refuse 25 ↔ (RightLength s → ⊥) ⊎ (RightLength s × RightForm s × (length s < time_end (octets_in s)))
  unfolding read_packet accepted_packet unless among
  another_length = (
    λ h. ⊎_elim (λ w. inl (λ e. not_both (eq-eqb (length s) (packet_length s) e) w.1))
        (λ w. let v = past 26 _ _ (λ e. omega (arith, e)) w.1 in
        ⊎_elim (λ u. inr (eqb-true _ _ w.0, right_form s v.0, leb-false _ _ u.1)) (λ u. absurd (outside behind_only refl u.1)) (at_or_past 25 _ _ v.1))
        (at_or_past 25 _ _ h),
    ⊎_elim (λ n. rw (ne_eqb (length s) (packet_length s) n))
        (λ w. rw (eq-eqb (length s) (packet_length s) w.0, form_accepted s w.1, lt-leb (time_end (octets_in s)) (length s) w.2)),
  )

  wrong_form : (RightForm s → ⊥) → form_ok s ≡ false
  wrong_form n = by_test (form_ok s) (λ t. absurd (n (right_form s t))) (λ f. f)

  another_form : read_packet l p s ≡ refuse 26 ↔ RightLength s × (RightForm s → ⊥)
  unfolding read_packet accepted_packet unless among
  another_form = (
    λ h. let w = past 25 _ _ (λ e. omega (arith, e)) h in
        ⊎_elim (λ v. (eqb-true _ _ w.0, λ r. not_both (form_accepted s r) v.1))
        (λ v. absurd (outside behind_only refl (past 25 (leb (time_end (octets_in s)) (length s)) behind (λ e. omega (arith, e)) v.1).1))
        (at_or_past 26 _ _ w.1),
    λ w. rw (eq-eqb (length s) (packet_length s) w.0, wrong_form w.1),
  )

  refused_layout : (l.n ≡ 2 → ⊥) ⊎ (layout_ok l ≡ false) → behind ≡ refuse 1
  unfolding unless
  refused_layout (inl n) = rw (ne_eqb l.n 2 n)
  refused_layout (inr f) = rw f (by_test (eqb l.n 2) (λ t. rw t) (λ n. rw n))

  another_layout : read_packet l p s ≡ refuse 1 ↔ GoodPacket s × ((l.n ≡ 2 → ⊥) ⊎ (layout_ok l ≡ false))
  unfolding read_packet unless among packet_place
  another_layout = (
    λ h. let w = past_packet 1 _ s (λ e. omega (arith, e)) (λ e. omega (arith, e)) h in (
      w.0,
      ⊎_elim (λ t. inl (eqb-false l.n 2 t.1))
          (λ t. ⊎_elim (λ k. inr k.1) (λ k. absurd (outside (packet_only {places = packet_place} {ks = 11 ∷ []} refl refl p s c) refl (past_at 2 _ _ k.1).1)) (at_or_past 1 _ _ t.1))
          (at_or_past 1 _ _ w.1),
    ),
    λ w. packet_accepted _ s w.0
        ∙ refused_layout w.1,
  )

  none_holds : read_packet l p s ≡ refuse 11 ↔ GoodPacket s × GoodClock l p × NoneHolds p c
  unfolding read_packet
  none_holds = (
    λ h. let w = past_packet 11 _ s (λ e. omega (arith, e)) (λ e. omega (arith, e)) h in
        let t = past 1 _ _ (λ e. omega (arith, e)) w.1 in
        let k = past 1 _ _ (λ e. omega (arith, e)) t.1 in
        let q = past_at 2 _ _ k.1 in (
          w.0,
          record { two = eqb-true _ _ t.0; layout = k.0; partitions = q.0 },
          ⊎_elim (λ f. absurd (not_answer (sym q.1 ∙ f.2))) (λ n. n.0) first_packet,
        ),
    λ w. packet_accepted _ s w.0 ∙ (clock_accepted _ l p w.1 ∙ ⊎_elim (λ f. absurd (w.2 f.0 f.1.it)) (λ n. n.1) first_packet),
  )

too_short_lem : (s : List ℕ) → length s < 7 → RightLength s → ⊥
too_short_lem s h e = omega arith

ticks_parts : (m f coarse fine : ℕ) → ticks m f coarse fine ≡ coarse * m + round_down (fine * m) (256 ^ f)
unfolding ticks round_down
ticks_parts m f coarse fine = rw (add-mul (coarse * 256 ^ f) fine m, mul_right_comm coarse (256 ^ f) m) (mul-add-div_right (power_pos f) (coarse * m) (fine * m))

pub reading : Reading
reading =
    record {
      answered = answered;
      another_length = another_length;
      another_form = another_form;
      another_layout = another_layout;
      none_holds = none_holds;
      too_short_lem = too_short_lem;
      ticks_parts = ticks_parts;
    }
