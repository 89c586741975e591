-- The unit of an accepted layout may divide, and what a caller has of `measure`.
use Rattle.rules.specs.declared.refusal.Refusal.{Refusal}
use Rattle.std.specs.Prelude.{Result, Ok, Err}
use Prim.Native.Nat.{ℕ}
use mathlib.Core.Path.{◌≡◌, sym}
use native.Mathlib.Omega.{arith}
use lib.Dec.{leb}
use lib.ListN.{drop}
use Rattle.base.proofs.Lists.{all_drop_one, product_pos}
use Rattle.rules.specs.declared.Layout.{Layout}
use Rattle.rules.specs.Answer.{answer, answer_of}
use Rattle.rules.specs.Layout.{layout_ok, moduli_of, msf_of, unit_of}
use Rattle.rules.specs.Facts.{LayoutFacts}
use Rattle.rules.proofs.Accepted.{layout_facts}
use Rattle.rules.proofs.Answers.{unless-test, unless-rest}
use Rattle.layouts.specs.declared.Measured.{Measured}
use Rattle.layouts.specs.Measure.{measured, measure_of, UnitFacts, InLimits}

pub unit_facts : (l : Layout) → LayoutFacts l → UnitFacts (unit_of l)
unfolding unit_of msf_of
unit_facts l f =
    record {
      low = omega (arith, product_pos (drop 1 (moduli_of l)) (all_drop_one (λ m. leb 1 m) (moduli_of l) f.moduli));
      high = omega (arith, f.msf);
    }

measured_unit : (l : Layout) (m : Measured) → answer m ≡ measure_of l → UnitFacts m.unit
unfolding measure_of
measured_unit l m e =
    let good = unless-test 1 (layout_ok l) _ m (sym e) in
    let same : answer (measured l) ≡ answer m = unless-rest 1 (layout_ok l) _ m (sym e) in
    let unit : m.unit ≡ unit_of l = cc in
    rw unit (unit_facts l (layout_facts l good))

pub measured_in_limits : (l : Layout) (r : Result Measured Refusal) → answer_of r ≡ measure_of l → InLimits r
measured_in_limits l (Ok m) e = record { unit = λ k same. rw (← (accepted_is same)) (measured_unit l m e) }
  where
    accepted_is : {a b : Measured} → ◌≡◌ {A = Result Measured Refusal} (Ok a) (Ok b) → a ≡ b
    accepted_is h = cc
measured_in_limits l (Err k) e = record { unit = λ m same. absurd (not_accepted_lem same) }
  where
    not_accepted_lem : {k : Refusal} {m : Measured} → ◌≡◌ {A = Result Measured Refusal} (Err k) (Ok m) → ⊥
    not_accepted_lem h = let z : ◌≡◌ {A = ℕ} 0 1 = cc in omega arith
