-- The promises of specs/Refusals.antt.
use Prim.Native.Nat.{ℕ}
use native.Mathlib.Omega.{arith}
use mathlib.Core.Path.{◌≡◌, refl, sym}
use Rattle.base.specs.Scans.{among}
use Rattle.rules.specs.Answer.{Answer, answer, refused, Numbered}
use Rattle.rules.specs.Layout.{layout_ok, product_of, unit_of}
use Rattle.rules.specs.Partitions.{partitions_fault, total_of}
use Rattle.rules.specs.Segments.{segments_fault}
use Rattle.rules.specs.Accepted.{accepted}
use Rattle.rules.proofs.Answers.{unless-test, unless-rest, unless-at-none, unless-at-rest}
use Rattle.outcomes.proofs.Ladder.{answers, accepted_only}
use Rattle.versions.specs.Versions.{Table, Accepted}
use Rattle.versions.proofs.Demand3.{through_three}
use Rattle.succession_rules.specs.OfTwo.{OfTwo, answered, older_refused, newer_refused, checked, refused_first, of_two}
use Rattle.succession_outcomes.specs.Refusals.{table_refusals, TableChecked, RefusedExactly}

pub checked_passes : (t : Table) → Accepted t → checked t ≡ answer t
unfolding checked
checked_passes t ok = through_three t ok (answer t)

pub passes_checked : (t o : Table) → checked t ≡ answer o → Accepted t
unfolding checked accepted
passes_checked t o e =
    let l = t.layout in
    let e2 = unless-rest 1 (layout_ok l) _ o e in
    let e3 = unless-at-rest 2 (partitions_fault (product_of l) t.partitions) _ o e2 in
    record {
      layout = unless-test 1 (layout_ok l) _ o e;
      partitions = rw (unless-at-none 2 (partitions_fault (product_of l) t.partitions) _ o e2);
      segments = rw (unless-at-none 3 (segments_fault (unit_of l) (total_of t.partitions) t.segments) _ o e3);
    }

pub table_checked : (t : Table) → TableChecked t
unfolding checked table_refusals among
table_checked t =
    record {
      passes = (λ ok. checked_passes t ok, λ e. passes_checked t t e);
      only = accepted_only refl refl refl t.layout t.partitions t.segments (answers t);
    }

module _ {A : Type 0} where
  -- no two of the three are equal
  clash_older : {k : Numbered} {b : A} → ◌≡◌ {A = OfTwo A} (older_refused k) (answered b) → ⊥
  clash_older h = let z : ◌≡◌ {A = ℕ} 0 1 = cc in omega arith

  clash_newer : {k : Numbered} {b : A} → ◌≡◌ {A = OfTwo A} (newer_refused k) (answered b) → ⊥
  clash_newer h = let z : ◌≡◌ {A = ℕ} 0 1 = cc in omega arith

  clash_both : {k j : Numbered} → ◌≡◌ {A = OfTwo A} (newer_refused k) (older_refused j) → ⊥
  clash_both h = let z : ◌≡◌ {A = ℕ} 0 1 = cc in omega arith

  first_answers : (x y : Answer Table) (a b : A) → refused_first x y a ≡ answered b → (o : Table) × (n : Table) × (x ≡ answer o) × (y ≡ answer n) × (a ≡ b)
  unfolding refused_first
  first_answers (answer o) (answer n) a b h = let same : a ≡ b = cc in (o, n, refl, refl, same)
  first_answers (answer o) (refused k) a b h = absurd (clash_newer h)
  first_answers (refused k) y a b h = absurd (clash_older h)

  first_older : (x y : Answer Table) (a : A) (k : Numbered) → refused_first x y a ≡ older_refused k → x ≡ refused k
  unfolding refused_first
  first_older (answer o) (answer n) a k h = absurd (clash_older (sym h))
  first_older (answer o) (refused j) a k h = absurd (clash_both h)
  first_older (refused j) y a k h = let same : j ≡ k = cc in rw same

  first_newer : (x y : Answer Table) (a : A) (k : Numbered) → refused_first x y a ≡ newer_refused k → (o : Table) × (x ≡ answer o) × (y ≡ refused k)
  unfolding refused_first
  first_newer (answer o) (answer n) a k h = absurd (clash_newer (sym h))
  first_newer (answer o) (refused j) a k h = let same : j ≡ k = cc in (o, refl, rw same)
  first_newer (refused j) y a k h = absurd (clash_both (sym h))

  module _ (older newer : Table) (a : A) where
    pub answers_both : (b : A) → of_two older newer a ≡ answered b → Accepted older × Accepted newer × (a ≡ b)
    answers_both b h =
        let w = first_answers (checked older) (checked newer) a b h in
        (passes_checked older w.0 w.2, passes_checked newer w.1 w.3, w.4)

    pub both_answer : (b : A) → Accepted older → Accepted newer → a ≡ b → of_two older newer a ≡ answered b
    unfolding refused_first
    both_answer b o n e = rw (checked_passes older o, checked_passes newer n, e)

    older_first : (k : Numbered) → checked older ≡ refused k → of_two older newer a ≡ older_refused k
    unfolding refused_first
    older_first k e = rw e

    then-newer : (k : Numbered) → Accepted older → checked newer ≡ refused k → of_two older newer a ≡ newer_refused k
    unfolding refused_first
    then-newer k o e = rw (checked_passes older o, e)

    pub refused_exactly : RefusedExactly older newer a
    refused_exactly =
        record {
          answers = λ b. (answers_both b, λ w. both_answer b w.0 w.1 w.2);
          older_out = λ k. (first_older (checked older) (checked newer) a k, older_first k);
          newer_out = λ k. (
            λ h. let w = first_newer (checked older) (checked newer) a k h in (passes_checked older w.0 w.1, w.2),
            λ w. then-newer k w.0 w.1,
          );
        }
