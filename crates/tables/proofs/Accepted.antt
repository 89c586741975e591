-- What a caller has of accepted tables, by the case of the answer: `layout-..` of the layout, `stamps-..` of layout and partitions,
-- `table-..` of all three.
use Rattle.rules.specs.declared.refusal.Refusal.{Refusal}
use Rattle.std.specs.Prelude.{Result, Ok, Err}
use mathlib.Core.Path.{◌≡◌, sym, ◌∙◌, ap}
use mathlib.Core.Bool.{true}
use mathlib.Core.Option.{none}
use Rattle.rules.specs.declared.Layout.{Layout}
use Rattle.rules.specs.Answer.{Answer, answer, refused, unless, unless_at, and_then, as_numbered, answer_of}
use Rattle.rules.specs.Layout.{layout_ok, product_of, unit_of}
use Rattle.rules.specs.Partitions.{Partitions, partitions_fault, total_of}
use Rattle.rules.specs.Segments.{Segments, segments_fault}
use Rattle.rules.specs.Accepted.{accepted_stamps, accepted}
use Rattle.rules.proofs.Accepted.{layout_facts, partitions_facts, segments_facts}
use Rattle.rules.proofs.Answers.{payload, not_answer, unless-test, unless-rest, unless-at-none, unless-at-rest}
use Rattle.rules.specs.Facts.{LayoutFacts}
use Rattle.layouts.specs.declared.Measured.{Measured}
use Rattle.layouts.specs.Measure.{measure_of, measured}
use Rattle.layouts.proofs.Units.{unit_facts}
use Rattle.tables.specs.declared.Basis.{Basis}
use Rattle.tables.specs.Accept.{basis, stamps_basis, table_basis, StampsFacts, TableFacts}
use Rattle.tables.proofs.Guards.{passed, passed_at, refused_same, refused_same_at, then-unless, then-unless-at}

module _ (l : Layout) (m : Result Measured Refusal) (w : answer_of m ≡ measure_of l) where
  pub layout_refused : {A : Type 0} (k : Refusal) (a : Answer A) → m ≡ Err k → refused (as_numbered k) ≡ unless 1 (layout_ok l) a
  unfolding measure_of
  layout_refused k a h = refused_same (as_numbered k) 1 (layout_ok l) (answer (measured l)) a (rw h at (sym w)) (λ z. absurd (not_answer (sym z)))

  module _ (v : Measured) (h : m ≡ Ok v) where
    good : layout_ok l ≡ true
    unfolding measure_of
    good = unless-test 1 (layout_ok l) (answer (measured l)) v (rw h at (sym w))

    pub layout_good : LayoutFacts l
    layout_good = layout_facts l good

    pub layout_product : v.product ≡ product_of l
    unfolding measure_of
    layout_product = ap (λ (x : Measured). x.product) (sym (payload (unless-rest 1 (layout_ok l) (answer (measured l)) v (rw h at (sym w)))))

    pub layout_accepted : {A : Type 0} (x a : Answer A) → x ≡ a → x ≡ unless 1 (layout_ok l) a
    layout_accepted x a q = passed 1 (layout_ok l) a x good q

module _ (l : Layout) (p : Partitions) where
  abbrev pub found : Basis
  found = basis (unit_of l) (total_of p)

  -- where both guards let the basis through
  module _ (b : Basis) (two : accepted_stamps l p (answer found) ≡ answer b) where
    second : unless_at 2 (partitions_fault (product_of l) p) (answer found) ≡ answer b
    second = unless-rest 1 (layout_ok l) _ b two

    same : found ≡ b
    same = payload (unless-at-rest 2 (partitions_fault (product_of l) p) _ b second)

    pub facts_behind : StampsFacts l p b
    facts_behind =
        let good = layout_facts l (unless-test 1 (layout_ok l) _ b two) in
        let spans = partitions_facts (product_of l) p (rw (unless-at-none 2 (partitions_fault (product_of l) p) _ b second)) in
        record {
          layout = good;
          partitions = spans;
          unit = rw (← same);
          total = rw (← same);
          numbers = rw (← same) (record { divides = unit_facts l good; small = spans.total });
        }

    pub behind : {A : Type 0} (x a : Answer A) → x ≡ a → x ≡ accepted_stamps l p a
    behind x a q =
        passed 1 (layout_ok l) (unless_at 2 (partitions_fault (product_of l) p) a) x (unless-test 1 (layout_ok l) _ b two)
        (passed_at 2 (partitions_fault (product_of l) p) a x (unless-at-none 2 (partitions_fault (product_of l) p) _ b second) q)

  module _ (m : Result Measured Refusal) (w : answer_of m ≡ measure_of l) (r : Result Basis Refusal) where
    module _ (e : answer_of r ≡ and_then (answer_of m) (stamps_basis p)) where
      pub stamps_same : answer_of r ≡ accepted_stamps l p (answer found)
      unfolding measure_of stamps_basis and_then
      stamps_same = e ∙ rw w (then-unless 1 (layout_ok l) (answer (measured l)) (stamps_basis p))

      pub stamps_refused : {A : Type 0} (k : Refusal) (a : Answer A) → r ≡ Err k → refused (as_numbered k) ≡ accepted_stamps l p a
      stamps_refused k a h =
          refused_same (as_numbered k) 1 (layout_ok l) (unless_at 2 (partitions_fault (product_of l) p) (answer found)) (unless_at 2 (partitions_fault (product_of l) p) a) (rw h at (sym stamps_same))
          (λ x. refused_same_at (as_numbered k) 2 (partitions_fault (product_of l) p) (answer found) a x (λ z. cc))

      module _ (b : Basis) (h : r ≡ Ok b) where
        two_guards : accepted_stamps l p (answer found) ≡ answer b
        two_guards = rw h at (sym stamps_same)

        pub stamps_facts : StampsFacts l p b
        stamps_facts = facts_behind b two_guards

        -- where the tables are accepted, what follows is the call's answer
        pub stamps_accepted : {A : Type 0} (x a : Answer A) → x ≡ a → x ≡ accepted_stamps l p a
        stamps_accepted x a q = behind b two_guards x a q

    module _ (g : Segments) (e : answer_of r ≡ and_then (answer_of m) (table_basis p g)) where
      table_same : answer_of r ≡ accepted l p g (answer found)
      unfolding measure_of stamps_basis table_basis and_then accepted
      table_same =
          e
          ∙ rw w (then-unless 1 (layout_ok l) (answer (measured l)) (table_basis p g))
          ∙ ap (unless 1 (layout_ok l)) (then-unless-at 2 (partitions_fault (product_of l) p) (answer found) (λ b. unless_at 3 (segments_fault b.unit b.total g) (answer b)))

      pub table_refused : {A : Type 0} (k : Refusal) (a : Answer A) → r ≡ Err k → refused (as_numbered k) ≡ accepted l p g a
      unfolding accepted
      table_refused k a h =
          refused_same (as_numbered k) 1 (layout_ok l) _ _ (rw h at (sym table_same))
          (λ x. refused_same_at (as_numbered k) 2 (partitions_fault (product_of l) p) _ _ x
          (λ y. refused_same_at (as_numbered k) 3 (segments_fault (unit_of l) (total_of p) g) (answer found) a y (λ z. cc)))

      module _ (b : Basis) (h : r ≡ Ok b) where
        guarded : accepted_stamps l p (unless_at 3 (segments_fault (unit_of l) (total_of p) g) (answer found)) ≡ answer b
        unfolding accepted
        guarded = rw h at (sym table_same)

        third : unless_at 3 (segments_fault (unit_of l) (total_of p) g) (answer found) ≡ answer b
        third = unless-at-rest 2 (partitions_fault (product_of l) p) _ b (unless-rest 1 (layout_ok l) _ b guarded)

        segments_good : segments_fault (unit_of l) (total_of p) g ≡ none
        segments_good = unless-at-none 3 (segments_fault (unit_of l) (total_of p) g) _ b third

        first_two : accepted_stamps l p (answer found) ≡ answer b
        unfolding unless_at
        first_two = rw segments_good at guarded

        pub table_facts : TableFacts l p g b
        table_facts =
            let s = facts_behind b first_two in
            record { stamps = s; segments = segments_facts b.unit b.total g (rw (s.unit, s.total, segments_good)) }

        pub table_accepted : {A : Type 0} (x a : Answer A) → x ≡ a → x ≡ accepted l p g a
        unfolding accepted
        table_accepted x a q =
            behind b first_two x (unless_at 3 (segments_fault (unit_of l) (total_of p) g) a) (passed_at 3 (segments_fault (unit_of l) (total_of p) g) a x segments_good q)
