-- Before the tables and behind them no refusal of the two calls has a place.
use Prim.Native.Nat.{ℕ}
use mathlib.Core.Path.{◌≡◌, refl, ◌∙◌}
use mathlib.Core.List.{List, [], ◌∷◌}
use mathlib.Core.Logic.{◌↔◌}
use borrow.Author.Tests.{eq-eqb, eqb-true, leb-true}
use Rattle.base.specs.Scans.{among}
use Rattle.rules.specs.declared.Layout.{Layout}
use Rattle.rules.specs.Answer.{Answer, refuse_at, unless}
use Rattle.rules.specs.Partitions.{Partitions}
use Rattle.outcomes.specs.Refusals.{no_place, OnlyRefuses}
use Rattle.outcomes.proofs.Ladder.{rung}
use Rattle.places.specs.Calls.{TwoDue}
use Rattle.places.proofs.Placed.{past_unless}
use Rattle.places.proofs.Calls.{unplaced, gives_two}
use Rattle.packet_rules.specs.Read.{accepted_packet, accepted_clock, read_packet}
use Rattle.packet_rules.specs.Write.{write_packet}
use Rattle.packet_outcomes.specs.Reading.{GoodPacket}
use Rattle.packet_outcomes.specs.Rows.{PacketRows}
use Rattle.packet_outcomes.proofs.Accepted.{right_form, packet_accepted}
use Rattle.packet_outcomes.proofs.Refusals.{packet_only, bytes_only}

module _ {A : Type 0} (a : Answer A) where
  clock_two : {ks : List ℕ} (l : Layout) (p : Partitions) (i : ℕ) → OnlyRefuses no_place ks a → accepted_clock l p a ≡ refuse_at 2 i ↔ (l.n ≡ 2) × TwoDue l p i
  unfolding unless
  clock_two l p i n = (
    λ h. let w = past_unless 1 _ _ h in (eqb-true _ _ w.0, (gives_two l p a i (unplaced n)).0 w.1),
    λ w. rw (eq-eqb l.n 2 w.0) ((gives_two l p a i (unplaced n)).1 w.1),
  )

  packet_two : (s : List ℕ) (i : ℕ) → accepted_packet s a ≡ refuse_at 2 i → GoodPacket s × (a ≡ refuse_at 2 i)
  unfolding accepted_packet
  packet_two s i h =
      let w = past_unless 25 _ _ h in
      let v = past_unless 26 _ _ w.1 in
      let u = past_unless 25 _ _ v.1 in
      (record { whole = eqb-true _ _ w.0; form = right_form s v.0; within = leb-true _ _ u.0 }, u.1)

pub packet_rows : PacketRows
unfolding read_packet write_packet no_place among
packet_rows =
    record {
      reading = λ l p s i.
          let two = clock_two _ l p i (packet_only {ks = 11 ∷ []} refl refl p s _) in
          (λ h. let w = packet_two _ s i h in let v = two.0 w.1 in (w.0, v.0, v.1), λ w. packet_accepted _ s w.0 ∙ two.1 (w.1, w.2));
      writing = λ l p h o e d room i.
          clock_two _ l p i (rung {ks = 26 ∷ 25 ∷ 12 ∷ 9 ∷ 16 ∷ []} 26 _ refl refl (bytes_only refl refl refl refl refl refl refl refl p h o e d room));
    }
