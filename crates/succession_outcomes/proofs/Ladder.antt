-- What a verdict says of the rows of each condition.
use Prim.Native.Nat.{ℕ, ◌+◌, ◌<◌}
use native.Mathlib.Omega.{arith}
use mathlib.Core.Path.{◌≡◌, refl, sym, ap, subst, ◌∙◌}
use mathlib.Core.Option.{Option, none, some}
use mathlib.Core.Logic.{◌⊎◌, inl, inr, ⊎_elim}
use lib.Dec.{eqb}
use lib.ListN.{get_or}
use mathlib.Core.List.{[], ◌∷◌}
use borrow.Author.Tests.{eqb-true, eqb-false}
use Rattle.base.proofs.Tests.{by_test}
use Rattle.rules.specs.Answer.{fails_at}
use Rattle.rules.specs.Layout.{unit_of}
use Rattle.rules.specs.Partitions.{total_of}
use Rattle.rules.specs.Segments.{segments_in}
use Rattle.versions.specs.Versions.{Table}
use Rattle.versions.specs.Seam.{seam_of}
use Rattle.succession_rules.specs.declared.Condition.{Condition}
use Rattle.succession_rules.specs.declared.Condition.TheVariants as Asked
use Rattle.succession_rules.specs.declared.Failure.{Failure}
use Rattle.succession_rules.specs.Kept.{same_layout, partition_lost, segment_lost, further_low, seam_back}
use Rattle.succession_rules.specs.Succession.{Verdict, succeeds, fails, failure, unless_fails, verdict}
use Rattle.succession_outcomes.specs.Succession.{turn}

-- the row where a condition fails
abbrev pub row_of : Table → Table → Condition → Option ℕ
row_of older newer Asked.Layout = fails_at 0 (same_layout older.layout newer.layout)
row_of older newer Asked.Partition = partition_lost older.partitions newer.partitions
row_of older newer Asked.Segment = segment_lost older.segments newer.segments
row_of older newer Asked.Further = further_low (total_of older.partitions) (segments_in older.segments) newer.segments.counts
row_of older newer Asked.Seam = seam_back (unit_of newer.layout) newer.segments (seam_of older)

not_yes : {f : Failure} → fails f ≡ succeeds → ⊥
not_yes h = let z : ◌≡◌ {A = ℕ} 0 1 = cc in omega arith

module _ (c : Condition) (v : Verdict) where
  rung_yes : (o : Option ℕ) → unless_fails c o v ≡ succeeds → (o ≡ none) × (v ≡ succeeds)
  unfolding unless_fails
  rung_yes none h = (refl, h)
  rung_yes (some i) h = absurd (not_yes h)

  -- it fails here, or further down
  rung_no : (o : Option ℕ) (f : Failure) → unless_fails c o v ≡ fails f → ((i : ℕ) × (f ≡ failure c i) × (o ≡ some i)) ⊎ ((o ≡ none) × (v ≡ fails f))
  unfolding unless_fails
  rung_no none f h = inr (refl, h)
  rung_no (some i) f h = let same : f ≡ failure c i = cc in inl (i, same, refl)

-- the conditions by their turn
at : ℕ → Condition
at i = get_or (Asked.Layout ∷ Asked.Partition ∷ Asked.Segment ∷ Asked.Further ∷ Asked.Seam ∷ []) i Asked.Layout

at_turn : (c : Condition) → at (turn c) ≡ c
unfolding at turn
at_turn Asked.Layout = refl
at_turn Asked.Partition = refl
at_turn Asked.Segment = refl
at_turn Asked.Further = refl
at_turn Asked.Seam = refl

-- a fact of each condition before d and of d
before_next : (F : Condition → Type 0) (d : Condition) (n : ℕ) → n ≡ turn d + 1 → ((c : Condition) → turn c < turn d → F c) → F d → (c : Condition) → turn c < n → F c
before_next F d n e f a c b =
    by_test (eqb (turn c) (turn d))
    (λ t. subst F (sym (at_turn d) ∙ ap at (sym (eqb-true (turn c) (turn d) t)) ∙ at_turn c) a)
    (λ t. f c (less (eqb-false (turn c) (turn d) t)))
  where
    less : (turn c ≡ turn d → ⊥) → turn c < turn d
    less d' = omega arith

module _ (older newer : Table) where
  abbrev None : Condition → Type 0
  None c = row_of older newer c ≡ none

  -- what a failure says of the rows
  pub record Stopped (f : Failure) : Type 0 where
    pub here : row_of older newer f.condition ≡ some f.row
    pub before : (c : Condition) → turn c < turn f.condition → None c

  abbrev Above : Condition → Type 0
  Above d = (c : Condition) → turn c < turn d → None c

  none_above : Above Asked.Layout
  unfolding turn
  none_above c b = absurd (omega arith)

  stop : (d : Condition) (f : Failure) → Above d → (i : ℕ) × (f ≡ failure d i) × (row_of older newer d ≡ some i) → Stopped f
  stop d f above w = subst Stopped (sym w.1) (record { here = w.2; before = above })

  -- one rung: it stops there, or what is below says the rest
  rung : (d : Condition) (v : Verdict) (f : Failure) → Above d → unless_fails d (row_of older newer d) v ≡ fails f → (None d → v ≡ fails f → Stopped f) → Stopped f
  rung d v f above h rest = ⊎_elim (stop d f above) (λ w. rest w.0 w.1) (rung_no d v (row_of older newer d) f h)

  pub stopped : (f : Failure) → verdict older newer ≡ fails f → Stopped f
  unfolding verdict turn
  stopped f h =
      rung Asked.Layout _ f none_above h (λ a h1.
      let b1 = before_next None Asked.Layout 1 refl none_above a in
      rung Asked.Partition _ f b1 h1 (λ b h2.
      let b2 = before_next None Asked.Partition 2 refl b1 b in
      rung Asked.Segment _ f b2 h2 (λ c h3.
      let b3 = before_next None Asked.Segment 3 refl b2 c in
      rung Asked.Further _ f b3 h3 (λ d h4.
      let b4 = before_next None Asked.Further 4 refl b3 d in
      rung Asked.Seam _ f b4 h4 (λ e h5. absurd (not_yes (sym h5)))))))

  pub none_fails : verdict older newer ≡ succeeds → (c : Condition) → None c
  unfolding verdict
  none_fails h =
      let r0 = rung_yes Asked.Layout _ (row_of older newer Asked.Layout) h in
      let r1 = rung_yes Asked.Partition _ (row_of older newer Asked.Partition) r0.1 in
      let r2 = rung_yes Asked.Segment _ (row_of older newer Asked.Segment) r1.1 in
      let r3 = rung_yes Asked.Further _ (row_of older newer Asked.Further) r2.1 in
      let r4 = rung_yes Asked.Seam _ (row_of older newer Asked.Seam) r3.1 in
      each r0.0 r1.0 r2.0 r3.0 r4.0
    where
      each : None Asked.Layout → None Asked.Partition → None Asked.Segment → None Asked.Further → None Asked.Seam → (c : Condition) → None c
      each a b c d e Asked.Layout = a
      each a b c d e Asked.Partition = b
      each a b c d e Asked.Segment = c
      each a b c d e Asked.Further = d
      each a b c d e Asked.Seam = e

  pub all_pass : ((c : Condition) → None c) → verdict older newer ≡ succeeds
  unfolding verdict unless_fails
  all_pass f = rw (f Asked.Layout, f Asked.Partition, f Asked.Segment, f Asked.Further, f Asked.Seam)
