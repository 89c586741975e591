-- A packet, and the tables of a clock, are accepted exactly where their named facts hold.
use Prim.Native.Nat.{ℕ}
use mathlib.Core.Path.{◌≡◌, refl, ap}
use mathlib.Core.Bool.{true}
use mathlib.Core.List.{List}
use lib.ListN.{length}
use borrow.Author.Tests.{le-leb, leb-true, eq-eqb, eqb-true}
use Rattle.base.specs.Scans.{all_of, is_none}
use Rattle.base.proofs.Tests.{and_both, all_of_head, all_of_tail}
use Rattle.base.proofs.Scans.{nothing}
use Rattle.rules.specs.declared.Layout.{Layout}
use Rattle.rules.specs.Answer.{Answer, answer, unless, unless_at}
use Rattle.rules.specs.Layout.{product_of}
use Rattle.rules.specs.Partitions.{Partitions, partitions_fault}
use Rattle.rules.proofs.Answers.{unless-test, unless-rest, unless-at-none, unless-at-rest}
use Rattle.packet_rules.specs.Header.{octets_in, time_end, packet_length}
use Rattle.packet_rules.specs.Read.{form_ok, accepted_packet, accepted_clock}
use Rattle.packet_outcomes.specs.Reading.{RightForm, GoodPacket, GoodClock}

module _ (s : List ℕ) where
  pub right_form : form_ok s ≡ true → RightForm s
  unfolding form_ok
  right_form h =
      let h1 = all_of_tail _ _ h in
      let h2 = all_of_tail _ _ h1 in
      let h3 = all_of_tail _ _ h2 in
      record {
        version = eqb-true _ _ (all_of_head _ _ h);
        flag = eqb-true _ _ (all_of_head _ _ h1);
        extension = eqb-true _ _ (all_of_head _ _ h2);
        code = eqb-true _ _ (all_of_head _ _ h3);
      }

  pub form_accepted : RightForm s → form_ok s ≡ true
  unfolding form_ok all_of
  form_accepted f = and_both (eq-eqb _ _ f.version) (and_both (eq-eqb _ _ f.flag) (and_both (eq-eqb _ _ f.extension) (and_both (eq-eqb _ _ f.code) refl)))

module _ {A : Type 0} (a : Answer A) where
  pub packet_accepted : (s : List ℕ) → GoodPacket s → accepted_packet s a ≡ a
  unfolding accepted_packet unless
  packet_accepted s g =
      rw (eq-eqb (length s) (packet_length s) g.whole, form_accepted s g.form, le-leb (time_end (octets_in s)) (length s) g.within)

  pub clock_accepted : (l : Layout) (p : Partitions) → GoodClock l p → accepted_clock l p a ≡ a
  unfolding unless unless_at
  clock_accepted l p g = rw (eq-eqb l.n 2 g.two, g.layout, nothing (partitions_fault (product_of l) p) g.partitions)

  module _ (v : A) where
    pub good_packet : (s : List ℕ) → accepted_packet s a ≡ answer v → GoodPacket s × (a ≡ answer v)
    unfolding accepted_packet
    good_packet s h =
        let h1 = unless-rest 25 _ _ v h in
        let h2 = unless-rest 26 _ _ v h1 in (
          record {
            whole = eqb-true _ _ (unless-test 25 _ _ v h);
            form = right_form s (unless-test 26 _ _ v h1);
            within = leb-true _ _ (unless-test 25 _ _ v h2);
          },
          unless-rest 25 _ _ v h2,
        )

    pub good_clock : (l : Layout) (p : Partitions) → accepted_clock l p a ≡ answer v → GoodClock l p × (a ≡ answer v)
    good_clock l p h =
        let h1 = unless-rest 1 _ _ v h in
        let h2 = unless-rest 1 _ _ v h1 in (
          record { two = eqb-true _ _ (unless-test 1 _ _ v h); layout = unless-test 1 _ _ v h1; partitions = ap is_none (unless-at-none 2 _ _ v h2) },
          unless-at-rest 2 _ _ v h2,
        )
