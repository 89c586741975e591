-- The witnesses of specs/Needed.antt, computed.
use Prim.Native.Nat.{ℕ}
use mathlib.Core.Path.{◌≡◌, refl, ap}
use mathlib.Core.List.{List, [], ◌∷◌}
use lib.ListN.{get_or}
use native.Mathlib.Omega.{arith}
use Rattle.base.proofs.Tests.{not_both}
use Rattle.rules.specs.Computing.{computing}
use Rattle.rules.specs.Examples.{layout_a, partitions_a}
use Rattle.raw_rules.specs.Examples.{long_layout, long_partitions}
use Rattle.raw_rules.specs.Counter.{raw_difference, reset_raw, not_past, read_raw, counter_after}
use Rattle.raw_rules.specs.Calls.{call_answer, after_call, after_calls}
use Rattle.raw_outcomes.specs.History.{is_accepted_reset, some_accepted_reset, accepted_raw, accepted_raws, differences, last_from, counted, calls_of, accepted_since, each_next, Hypothesis, reset_low, readings_low, rises, short, Says}
use Rattle.raw_outcomes.specs.Needed.{breaking, Needed, rolling, Met, ResetNeeded}

-- the only number of two lists of one
only_number : {a b : ℕ} → ◌≡◌ {A = List ℕ} (a ∷ []) (b ∷ []) → a ≡ b
only_number h = ap (λ xs. get_or xs 0 0) h

pub needed : (h : Hypothesis) → Needed h (breaking h)
unfolding computing long_layout long_partitions reset_raw not_past read_raw counter_after call_answer after_call after_calls accepted_raw accepted_raws accepted_since breaking differences last_from each_next raw_difference
needed reset_low = record { others = others; broken = λ e. omega (arith, e); fails = λ e. omega (arith, e) }
  where
    others : (k : Hypothesis) → (k ≡ reset_low → ⊥) → Says (breaking reset_low) k
    others reset_low n = absurd (n refl)
    others readings_low n = refl
    others rises n = refl
    others short n = refl
needed readings_low = record { others = others; broken = λ e. omega (arith, only_number e); fails = λ e. omega (arith, e) }
  where
    others : (k : Hypothesis) → (k ≡ readings_low → ⊥) → Says (breaking readings_low) k
    others reset_low n = refl
    others readings_low n = absurd (n refl)
    others rises n = refl
    others short n = refl
needed rises = record { others = others; broken = λ e. not_both e refl; fails = λ e. omega (arith, e) }
  where
    others : (k : Hypothesis) → (k ≡ rises → ⊥) → Says (breaking rises) k
    others reset_low n = refl
    others readings_low n = refl
    others rises n = absurd (n refl)
    others short n = refl
needed short = record { others = others; broken = λ e. not_both e refl; fails = λ e. omega (arith, e) }
  where
    others : (k : Hypothesis) → (k ≡ short → ⊥) → Says (breaking short) k
    others reset_low n = refl
    others readings_low n = refl
    others rises n = refl
    others short n = absurd (n refl)

pub met : Met
unfolding computing long_layout long_partitions reset_raw not_past read_raw counter_after call_answer after_call after_calls accepted_raw accepted_raws accepted_since rolling differences last_from each_next raw_difference
met = record { says = says; adds_up = refl; moved = refl }
  where
    says : (h : Hypothesis) → Says rolling h
    says reset_low = refl
    says readings_low = refl
    says rises = refl
    says short = refl

pub reset_needed : ResetNeeded
unfolding computing layout_a partitions_a raw_difference reset_raw not_past read_raw counter_after call_answer after_call after_calls is_accepted_reset some_accepted_reset accepted_raw accepted_raws differences last_from counted calls_of accepted_since
reset_needed = record { not_accepted_lem = (refl, refl); not_accepted_count = (refl, refl); not_last_lem = (refl, refl); not_last_count = (refl, refl) }
