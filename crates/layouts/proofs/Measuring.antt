-- What each way out of `measure` says of the layout: 1 and why, or its two numbers.
use Prim.Native.Nat.{ℕ, zero, suc, ◌+◌, ◌*◌, ◌≤◌, min}
use mathlib.Core.Path.{◌≡◌, refl, sym, ◌∙◌}
use mathlib.Core.Bool.{Bool, true, false, not}
use mathlib.Core.List.{List, [], ◌∷◌, map}
use native.Mathlib.Nat.{zero-mul, mul-zero}
use native.Mathlib.Omega.{arith}
use lib.Dec.{leb}
use lib.ListN.{length, get_or, drop}
use borrow.Author.Tests.{le-leb, leb-true, not-true, not-false}
use Rattle.base.specs.Scans.{all_of, all, product}
use Rattle.base.proofs.Lists.{product_pos}
use Rattle.base.proofs.Tests.{by_test, not_both, and_both, all_of_head, all_of_tail}
use Rattle.rules.specs.declared.Layout.{Layout}
use Rattle.rules.specs.Limits.{most_fields, largest_offset, largest_p, largest_msf, last_delimiter}
use Rattle.rules.specs.Layout.{moduli_of, offsets_of, product_of, msf_of, unit_of, layout_ok}
use Rattle.rules.specs.Facts.{LayoutFacts}
use Rattle.rules.proofs.Accepted.{layout_facts, layout_accepted}
use Rattle.rules.specs.Answer.{Answer, refuse, unless}
use Rattle.layouts.specs.Measure.{measure_of, head_ok, measured_by}
use Rattle.layouts.specs.declared.Measured.{Measured}
use Rattle.layouts.proofs.Slots.{slots_within, product_of_slots}

-- "Each has a modulus of at least 1" where the product is at least 1; base has the other way.
factors : (a b : ℕ) → 1 ≤ a * b → (1 ≤ a) × (1 ≤ b)
factors zero b h = absurd (omega (arith, zero-mul b))
factors (suc a) zero h = absurd (omega (arith, mul-zero (suc a)))
factors (suc a) (suc b) h = (omega arith, omega arith)

positive_factors : (s : List ℕ) → 1 ≤ product s → all (λ m. leb 1 m) s ≡ true
unfolding all product
positive_factors [] h = refl
positive_factors (x ∷ s) h = and_both (le-leb 1 x (factors x (product s) h).0) (positive_factors s (factors x (product s) h).1)

-- a capped product that did not reach its cap is the product
uncapped : (p m limit : ℕ) → m ≡ min p (limit + 1) → m ≤ limit → m ≡ p
uncapped p m limit e h = omega arith

module _ (l : Layout) where
  refused_by : (LayoutFacts l → ⊥) → refuse 1 ≡ measure_of l
  unfolding measure_of unless
  refused_by f = by_test (layout_ok l) (λ t. absurd (f (layout_facts l t))) (λ e. rw e)

  pub bad_head : {b : Bool} → b ≡ head_ok l.n l.delimiter → not b ≡ true → refuse 1 ≡ measure_of l
  unfolding head_ok all_of
  bad_head {b} e h =
      refused_by (λ f. not_both (e ∙ rw (le-leb _ _ f.fields, le-leb _ _ f.few_fields, le-leb _ _ f.delimiter_low, le-leb _ _ f.delimiter_high)) (not-true b h))

  -- the first n offsets and moduli, wherever the code has them from
  pub large_offset : (os : List ℕ) → offsets_of l ≡ os → {b : Bool} → b ≡ all (λ o. leb o largest_offset) os → not b ≡ true → refuse 1 ≡ measure_of l
  large_offset os eo {b} e h = refused_by (λ f. not_both (e ∙ rw (← eo) f.offsets) (not-true b h))

  module _ (ms os : List ℕ) (em : moduli_of l ≡ ms) (eo : offsets_of l ≡ os) where
    module _ {b : Bool} (head : b ≡ head_ok l.n l.delimiter) (h : not b ≡ false) {c : Bool} (offsets : c ≡ all (λ o. leb o largest_offset) os) (k : not c ≡ false) (first m : ℕ) (ef : product ms ≡ first * product (drop 1 ms)) (e : m ≡ min (product (drop 1 ms)) (largest_msf + 1)) where
      head_holds : head_ok l.n l.delimiter ≡ true
      head_holds = sym head ∙ not-false b h

      facts : m ≤ largest_msf → first * m ≤ largest_p → 1 ≤ first * m → LayoutFacts l
      unfolding head_ok product_of msf_of
      facts small bound positive =
          let msf : m ≡ product (drop 1 ms) = uncapped (product (drop 1 ms)) m largest_msf e small in
          let whole : product ms ≡ first * m = rw (ef, msf) in
          let rest = all_of_tail _ _ head_holds in
          let third = all_of_tail _ _ rest in
          record {
            fields = leb-true 1 l.n (all_of_head _ _ head_holds);
            few_fields = leb-true l.n most_fields (all_of_head _ _ rest);
            moduli = rw em (positive_factors ms (rw whole positive));
            offsets = rw eo (sym offsets ∙ not-false c k);
            product = rw (em, whole) bound;
            msf = rw (em, ← msf) small;
            delimiter_low = leb-true 1 l.delimiter (all_of_head _ _ third);
            delimiter_high = leb-true l.delimiter last_delimiter (all_of_head _ _ (all_of_tail _ _ third));
          }

      -- so the tests of `measure_moduli` are those of the layout
      abbrev test : Bool
      test = all_of (leb m largest_msf ∷ leb (first * m) largest_p ∷ leb 1 (first * m) ∷ [])

      tests : LayoutFacts l → test ≡ true
      unfolding all_of product_of msf_of
      tests f =
          let small : product (drop 1 ms) ≤ largest_msf = rw em at f.msf in
          let msf : m ≡ product (drop 1 ms) = omega arith in
          let whole : first * m ≡ product ms = rw (ef, msf) in
          let bound : product ms ≤ largest_p = rw em at f.product in
          let positive : 1 ≤ product ms = product_pos ms (rw em at f.moduli) in
          rw (whole, le-leb _ _ bound, le-leb _ _ positive, le-leb m largest_msf (omega arith))

      pub moduli_measured : (a : Answer Measured) → a ≡ measured_by first m → a ≡ measure_of l
      unfolding measure_of measured_by unless product_of unit_of msf_of
      moduli_measured a q =
          q ∙ by_test test
          (λ t.
          let rest = all_of_tail _ _ t in
          let small = leb-true m largest_msf (all_of_head _ _ t) in
          let msf : m ≡ product (drop 1 ms) = uncapped (product (drop 1 ms)) m largest_msf e small in
          let ok = layout_accepted l (facts small (leb-true (first * m) largest_p (all_of_head _ _ rest)) (leb-true 1 (first * m) (all_of_head _ _ (all_of_tail _ _ rest)))) in
          rw (t, ok, em, ef, ← msf))
          (λ f. rw f (refused_by (λ g. not_both (tests g) f)))

-- a good head has few fields
module _ (n d : ℕ) where
  module _ {b : Bool} (test : b ≡ head_ok n d) (good : not b ≡ false) where
    holds : head_ok n d ≡ true
    holds = sym test ∙ not-false b good

    pub some_fields : 1 ≤ n
    unfolding head_ok
    some_fields = leb-true 1 n (all_of_head _ _ holds)

    pub few_fields : n ≤ most_fields
    unfolding head_ok
    few_fields = leb-true n most_fields (all_of_head _ _ (all_of_tail _ _ holds))

-- the first modulus apart from the others, of an array
pub first_apart : (l : Layout) → length (map (λ (v : ℕ). v) l.moduli) ≡ most_fields → 1 ≤ l.n → l.n ≤ most_fields → product (moduli_of l) ≡ get_or l.moduli 0 0 * product (drop 1 (moduli_of l))
first_apart l long some few = product_of_slots l.moduli l.n some (slots_within l.moduli l.n most_fields long few)
