-- No call gives a refusal outside its set, and 2 alone has a place.
use Prim.Native.Nat.{ℕ}
use mathlib.Core.Path.{◌≡◌, refl}
use mathlib.Core.Bool.{Bool, true, false}
use mathlib.Core.List.{List}
use mathlib.Core.Logic.{⊎_elim}
use Rattle.base.specs.Scans.{among}
use Rattle.rules.specs.Partitions.{Partitions}
use Rattle.outcomes.specs.Refusals.{OnlyRefuses}
use Rattle.outcomes.proofs.Ladder.{answers, last_rung, rung, rung_at, then}
use Rattle.outcomes.proofs.Refusals.{fitting_only}
use Rattle.roundtrip.proofs.Unnamed.{first_or_none}
use Rattle.packet_rules.specs.declared.PacketHeader.{PacketHeader}
use Rattle.packet_rules.specs.declared.TimeOctets.{TimeOctets}
use Rattle.packet_rules.specs.Read.{accepted_packet, packet_at, read_packet}
use Rattle.packet_rules.specs.Write.{packet_of, write_packet}
use Rattle.packet_outcomes.specs.Refusals.{reading_refusals, writing_refusals, packet_place, Refusals}

-- behind the tables, under any set that has 11 without a place
pub packet_only : {places : ℕ → Bool} {ks : List ℕ} → among 11 ks ≡ true → places 11 ≡ false → (p : Partitions) (s : List ℕ) (c : ℕ) → OnlyRefuses places ks (packet_at p s c)
unfolding packet_at
packet_only h b p s c = then _ (⊎_elim (λ w. rw w.2 (answers _)) (λ w. rw w.1 (last_rung 11 h b)) (first_or_none p c)) (λ e _. answers _)

-- and under any that has 25, 12, 9 and 16
pub bytes_only : {places : ℕ → Bool} {ks : List ℕ} → among 25 ks ≡ true → among 12 ks ≡ true → among 9 ks ≡ true → among 16 ks ≡ true
    → places 25 ≡ false → places 12 ≡ false → places 9 ≡ false → places 16 ≡ false
    → (p : Partitions) (h : PacketHeader) (o : TimeOctets) (e : ℕ) (d : List ℕ) (room : ℕ) → OnlyRefuses places ks (packet_of p h o e d room)
unfolding packet_of
bytes_only k25 k12 k9 k16 b25 b12 b9 b16 p h o e d room = rung 25 _ k25 b25 (rung 12 _ k12 b12 (rung 9 _ k9 b9 (fitting_only k16 b16 room _)))

pub refusals : Refusals
unfolding read_packet accepted_packet write_packet reading_refusals writing_refusals packet_place among
refusals =
    record {
      reading = λ l p s.
          rung 25 _ refl refl (rung 26 _ refl refl (rung 25 _ refl refl (rung 1 _ refl refl (rung 1 _ refl refl (rung_at 2 _ refl refl (packet_only refl refl p s _))))));
      writing = λ l p h o e d room.
          rung 1 _ refl refl (rung 1 _ refl refl (rung_at 2 _ refl refl (rung 26 _ refl refl (bytes_only refl refl refl refl refl refl refl refl p h o e d room))));
    }
