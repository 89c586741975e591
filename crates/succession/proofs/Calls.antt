-- From what `accept` answers of each table to the two public calls.
use Rattle.rules.specs.declared.refusal.Refusal.{Refusal}
use Rattle.std.specs.Prelude.{Result, Ok, Err}
use Rattle.std.specs.Result.{MatchResult, IsErrAnd}
use Rattle.layouts.specs.declared.Measured.{Measured}
use mathlib.Core.Path.{◌≡◌, refl, sym, ap, ◌∙◌}
use Rattle.rules.specs.declared.Layout.{Layout}
use Rattle.rules.specs.Answer.{Answer, answer, refused, and_then, as_numbered, answer_of}
use Rattle.rules.specs.Layout.{product_of}
use Rattle.rules.specs.Partitions.{Partitions}
use Rattle.rules.specs.Segments.{Segments}
use Rattle.rules.proofs.Accepted.{layout_accepted, partitions_accepted, segments_accepted}
use Rattle.layouts.specs.Measure.{measure_of}
use Rattle.tables.specs.declared.Basis.{Basis}
use Rattle.tables.specs.Accept.{table_basis, TableFacts}
use Rattle.tables.proofs.Accepted.{table_refused, table_accepted}
use Rattle.versions.specs.Versions.{Table}
use Rattle.versions.proofs.Demand3.{through_three}
use Rattle.succession_rules.specs.declared.TableRefusal.{TableRefusal}
use Rattle.succession_rules.specs.declared.TableRefusal.TheVariants as Refused
use Rattle.succession_rules.specs.OfTwo.{answered, checked, refused_first, of_two, refused_table}
use Rattle.succession.specs.Both.{BothFacts}

-- what was there before `map_err`
pub told_ok : {A E D : Type 0} (r : Result A E) (Q : E → D → Type 0) (b : A) → MatchResult r (λ x. ◌≡◌ {A = Result A D} (Ok b) (Ok x)) (λ e. IsErrAnd {T = A} {E = D} (Ok b) (Q e)) → r ≡ Ok b
told_ok (Ok x) Q b h = cc
told_ok (Err e) Q b h = absurd h

pub told_err : {A E D : Type 0} (r : Result A E) (Q : E → D → Type 0) (k : D) → MatchResult r (λ x. ◌≡◌ {A = Result A D} (Err k) (Ok x)) (λ e. IsErrAnd {T = A} {E = D} (Err k) (Q e)) → (e : E) × (r ≡ Err e) × Q e k
told_err (Ok x) Q k h = cc
told_err (Err e) Q k h = (e, refl, h)

-- what accepting a table says of its check
module _ (t : Table) (m : Result Measured Refusal) (w : answer_of m ≡ measure_of t.layout) (r : Result Basis Refusal)
    (e : answer_of r ≡ and_then (answer_of m) (table_basis t.partitions t.segments)) where
  pub checked_refused : (k : Refusal) → r ≡ Err k → checked t ≡ refused (as_numbered k)
  unfolding checked
  checked_refused k h = sym (table_refused t.layout t.partitions m w r t.segments e k (answer t) h)

  module _ (b : Basis) (h : r ≡ Ok b) where
    pub checked_accepted : checked t ≡ answer t
    unfolding checked
    checked_accepted = sym (table_accepted t.layout t.partitions m w r t.segments e b h (answer t) (answer t) refl)

-- a table whose facts are known passes its check
pub checked_facts : (l : Layout) (p : Partitions) (g : Segments) (b : Basis) → TableFacts l p g b → checked (record { layout = l; partitions = p; segments = g }) ≡ answer (record { layout = l; partitions = p; segments = g })
unfolding checked
checked_facts l p g b f =
    let s = f.stamps in
    through_three (record { layout = l; partitions = p; segments = g })
    (record {
      layout = layout_accepted l s.layout;
      partitions = partitions_accepted (product_of l) p s.partitions;
      segments = rw (s.unit, s.total) at (segments_accepted b.unit b.total g f.segments);
    })
    _

-- the older's refusal, the newer's where the older is accepted, and what is answered where both are
module _ {A : Type 0} (older newer : Table) (a : A) where
  pub older_out : (k : Refusal) → checked older ≡ refused (as_numbered k) → refused_table (Refused.Older k) ≡ of_two older newer a
  unfolding refused_first
  older_out k o = rw o

  pub newer_out : (k : Refusal) → checked older ≡ answer older → checked newer ≡ refused (as_numbered k) → refused_table (Refused.Newer k) ≡ of_two older newer a
  unfolding refused_first
  newer_out k o n = rw (o, n)

  pub both_in : checked older ≡ answer older → checked newer ≡ answer newer → answered a ≡ of_two older newer a
  unfolding refused_first
  both_in o n = rw (o, n)

-- whatever is asked of the two, they are refused alike
pub refused_alike : {A B : Type 0} (older newer : Table) (a : A) (b : B) (k : TableRefusal) → refused_table k ≡ of_two older newer a → refused_table k ≡ of_two older newer b
unfolding refused_first
refused_alike older newer a b k h = by_checks (checked older) (checked newer) k h
  where
    by_checks : (x y : Answer Table) (k : TableRefusal) → refused_table k ≡ refused_first x y a → refused_table k ≡ refused_first x y b
    by_checks (refused j) y (Refused.Older k) h = cc
    by_checks (refused j) y (Refused.Newer k) h = cc
    by_checks (answer o) (refused j) (Refused.Older k) h = cc
    by_checks (answer o) (refused j) (Refused.Newer k) h = cc
    by_checks (answer o) (answer n) (Refused.Older k) h = cc
    by_checks (answer o) (answer n) (Refused.Newer k) h = cc

-- the facts of both, and the value
pub both_answered : {A : Type 0} (older newer : Table) (b : Basis × Basis) (x a : A) → BothFacts older newer b → x ≡ a → answered x ≡ of_two older newer a
both_answered older newer b x a f e =
    ap answered e ∙ both_in older newer a (checked_facts older.layout older.partitions older.segments b.0 f.of_older) (checked_facts newer.layout newer.partitions newer.segments b.1 f.of_newer)
