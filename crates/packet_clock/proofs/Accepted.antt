-- What a caller has of an accepted clock, and of a refused one.
use Rattle.rules.specs.declared.refusal.Refusal.{Refusal}
use Rattle.std.specs.Prelude.{Result, Ok, Err}
use Rattle.layouts.specs.declared.Measured.{Measured}
use Prim.Native.Nat.{ℕ, ◌≤◌}
use mathlib.Core.Path.{◌≡◌, sym}
use mathlib.Core.List.{List, [], ◌∷◌}
use lib.Dec.{eqb}
use lib.ListN.{get_or, take, drop}
use native.Mathlib.Omega.{arith}
use borrow.Author.Tests.{eq-eqb, ne_eqb, eqb-true}
use Rattle.base.specs.Scans.{product}
use Rattle.rules.specs.declared.Layout.{Layout}
use Rattle.rules.specs.Answer.{Answer, answer, refused, refuse, unless, and_then, as_numbered, answer_of}
use Rattle.rules.specs.Limits.{largest_msf}
use Rattle.rules.specs.Layout.{layout_ok, product_of, msf_of}
use Rattle.rules.specs.Partitions.{Partitions, partitions_fault}
use Rattle.rules.specs.Accepted.{accepted_stamps}
use Rattle.rules.proofs.Answers.{unless-test, unless-rest}
use Rattle.layouts.specs.Measure.{measure_of}
use Rattle.tables.specs.declared.Basis.{Basis}
use Rattle.tables.specs.Accept.{stamps_basis}
use Rattle.tables.proofs.Accepted.{found, facts_behind, behind, stamps_same}
use Rattle.tables.proofs.Guards.{passed, refused_same, refused_same_at}
use Rattle.packet_rules.specs.Read.{accepted_clock}
use Rattle.packet_clock.specs.Clock.{clock_basis, ClockFacts}

-- the ways out of the code
module _ (l : Layout) (p : Partitions) where
  pub not_two : (l.n ≡ 2 → ⊥) → refuse 1 ≡ clock_basis l p
  unfolding clock_basis unless
  not_two h = rw (ne_eqb l.n 2 h)

  pub two_fields : l.n ≡ 2 → (m : Result Measured Refusal) → answer_of m ≡ measure_of l → (r : Result Basis Refusal) → answer_of r ≡ and_then (answer_of m) (stamps_basis p) → answer_of r ≡ clock_basis l p
  unfolding clock_basis
  two_fields h m w r e = passed 1 (eqb l.n 2) _ _ (eq-eqb l.n 2 h) (stamps_same l p m w r e)

-- the second modulus is the product of all but the first
second_small : (n : ℕ) (ms : List ℕ) → n ≡ 2 → product (drop 1 (take n ms)) ≤ largest_msf → get_or ms 1 0 ≤ largest_msf
unfolding product
second_small n [] e h = omega arith
second_small n (x ∷ []) e h = omega arith
second_small n (x ∷ y ∷ ms) e h = let q = rw e at h in omega (arith, q)

-- for a caller of `accept_clock`
module _ (l : Layout) (p : Partitions) (r : Result Basis Refusal) (e : answer_of r ≡ clock_basis l p) where
  pub clock_refused : {A : Type 0} (k : Refusal) (a : Answer A) → r ≡ Err k → refused (as_numbered k) ≡ accepted_clock l p a
  unfolding clock_basis
  clock_refused k a h =
      refused_same (as_numbered k) 1 (eqb l.n 2) _ _ (rw h at (sym e))
      (λ x. refused_same (as_numbered k) 1 (layout_ok l) _ _ x
      (λ y. refused_same_at (as_numbered k) 2 (partitions_fault (product_of l) p) (answer (found l p)) a y (λ z. cc)))

  module _ (b : Basis) (h : r ≡ Ok b) where
    whole : unless 1 (eqb l.n 2) (accepted_stamps l p (answer (found l p))) ≡ answer b
    unfolding clock_basis
    whole = rw h at (sym e)

    two : l.n ≡ 2
    two = eqb-true l.n 2 (unless-test 1 (eqb l.n 2) _ b whole)

    stamps : accepted_stamps l p (answer (found l p)) ≡ answer b
    stamps = unless-rest 1 (eqb l.n 2) _ b whole

    pub clock_facts : ClockFacts l p b
    unfolding msf_of
    clock_facts =
        let f = facts_behind l p b stamps in
        record { stamps = f; modulus = second_small l.n l.moduli two f.layout.msf }

    pub clock_accepted : {A : Type 0} (x a : Answer A) → x ≡ a → x ≡ accepted_clock l p a
    clock_accepted x a q = passed 1 (eqb l.n 2) _ x (unless-test 1 (eqb l.n 2) _ b whole) (behind l p b stamps x a q)
