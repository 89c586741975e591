-- The subtick is the nearest, by the division's own bounds.
use Prim.Native.Nat.{ℕ, ◌+◌, ◌*◌, ◌≤◌, ◌<◌, ◌/◌, ◌%◌}
use mathlib.Core.Path.{◌≡◌, sym, ◌∙◌}
use lib.Dec.{leb, eqb}
use native.Mathlib.Omega.{arith}
use borrow.Author.Tests.{leb-true, leb-false, le-leb, eq-eqb, ne_eqb}
use Rattle.base.specs.Rounding.{round_down}
use Rattle.base.proofs.Tests.{by_test}
use Rattle.rules.specs.Answer.{answer, unless}
use Rattle.rules.proofs.Answers.{payload, unless-test}
use Rattle.raw_rules.specs.Seconds.{largest_microsecond, subtick_of, with_carry, read_seconds}
use Rattle.raw_rules.proofs.Seconds.{carry_sum}
use Rattle.raw_outcomes.specs.Subticks.{NearestSubtick, first_carried, HalfUp, Subticks}

nearest : (us : ℕ) → NearestSubtick us (subtick_of us)
unfolding subtick_of round_down
nearest us = record { from = omega arith; below = omega arith }

only : (us n : ℕ) → NearestSubtick us n → n ≡ subtick_of us
unfolding subtick_of round_down
only us n h = omega (arith, h.from, h.below)

count : (seconds us : ℕ) → us ≤ largest_microsecond → read_seconds seconds us ≡ answer (seconds * 256 + subtick_of us)
unfolding read_seconds unless
count seconds us h = rw (le-leb us largest_microsecond h, carry_sum seconds (subtick_of us))

-- from there on the subtick is 256, before it it is less
at_carry : (us : ℕ) → us ≤ largest_microsecond → first_carried ≤ us → subtick_of us ≡ 256
unfolding subtick_of round_down
at_carry us h k = omega arith

before_carry : (us : ℕ) → us < first_carried → subtick_of us < 256
unfolding subtick_of round_down
before_carry us k = omega arith

carries : (us : ℕ) → us ≤ largest_microsecond → eqb (subtick_of us) 256 ≡ leb first_carried us
carries us h =
    by_test (leb first_carried us)
    (λ t. eq-eqb (subtick_of us) 256 (at_carry us h (leb-true first_carried us t)) ∙ sym t)
    (λ f. ne_eqb (subtick_of us) 256 (λ e. absurd (omega (arith, before_carry us (omega (arith, leb-false first_carried us f)), e))) ∙ sym f)

module _ (seconds us e : ℕ) (h : read_seconds seconds us ≡ answer e) where
  in-range : us ≤ largest_microsecond
  unfolding read_seconds
  in-range = leb-true us largest_microsecond (unless-test 24 (leb us largest_microsecond) (answer (with_carry seconds (subtick_of us))) e h)

  sum : e ≡ seconds * 256 + subtick_of us
  sum = payload (sym h ∙ count seconds us in-range)

  carried_seconds : first_carried ≤ us → (e / 256 ≡ seconds + 1) × (e % 256 ≡ 0)
  carried_seconds k = (omega (arith, sum, at_carry us in-range k), omega (arith, sum, at_carry us in-range k))

  plain_seconds : us < first_carried → (e / 256 ≡ seconds) × (e % 256 ≡ subtick_of us)
  plain_seconds k = (omega (arith, sum, before_carry us k), omega (arith, sum, before_carry us k))

pub half_up : HalfUp
half_up = record { up = record { from = omega arith; below = omega arith }; not_down = λ h. absurd (omega (arith, h.below)); no_half = λ us n e. absurd (omega (arith, e)) }

pub subticks : Subticks
subticks = record { nearest = nearest; only = only; count = count; carries = carries; carried_seconds = carried_seconds; plain_seconds = plain_seconds }
