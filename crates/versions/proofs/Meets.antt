-- Each hypothesis as a test that computes, for tables that are written out.
use Prim.Native.Nat.{ℕ, zero, suc}
use mathlib.Core.Path.{◌≡◌, refl}
use mathlib.Core.Bool.{Bool, true, not}
use mathlib.Core.List.{List, [], ◌∷◌, map}
use lib.Dec.{eqb, leb, ltb}
use lib.ListN.{length, take, drop, get_or}
use borrow.Author.Tests.{eqb-true, leb-true, not-true}
use Rattle.base.specs.Scans.{all, all_of}
use Rattle.base.proofs.Tests.{all_of_head, all_of_tail}
use Rattle.rules.specs.Layout.{moduli_of, offsets_of, product_of, unit_of, layout_ok}
use Rattle.rules.specs.Partitions.{end_of, total_of, partitions_ok}
use Rattle.rules.specs.Segments.{segments_in, steps_back, segments_ok}
use Rattle.versions.specs.Versions.{Table, Accepted, last_in, Hypothesis, Says, Demand3}
use Rattle.versions.specs.Versions.{same-n, same_moduli, same_offsets, same-delimiter, kept-starts, kept-ends, last_end, kept-counts, kept-times, kept-rates, further-counts, no_step_back}
use Rattle.versions.specs.Equal.{eq_z, same}
use Rattle.versions.proofs.Equal.{eq_z_true, same_true}
use Rattle.versions.proofs.Demand3.{demand_3}

-- the newer list begins with the older, by a test of their elements
abbrev pub begins : {A : Type 0} → (A → A → Bool) → List A → List A → Bool
begins equal older newer = same equal (take (length older) newer) older

module _ (older newer : Table) where
  unfoldable pub meets : Hypothesis → Bool
  meets same-n = eqb newer.layout.n older.layout.n
  meets same_moduli = same eqb (take older.layout.n newer.layout.moduli) (moduli_of older.layout)
  meets same_offsets = same eqb (take older.layout.n newer.layout.offsets) (offsets_of older.layout)
  meets same-delimiter = eqb newer.layout.delimiter older.layout.delimiter
  meets kept-starts = begins eqb older.partitions.starts newer.partitions.starts
  meets kept-ends = begins eqb (take (last_in older) older.partitions.ends) newer.partitions.ends
  meets last_end = leb (end_of older.partitions (last_in older)) (end_of newer.partitions (last_in older))
  meets kept-counts = begins eqb older.segments.counts newer.segments.counts
  meets kept-times = begins eq_z older.segments.times newer.segments.times
  meets kept-rates = begins eqb older.segments.rates newer.segments.rates
  meets further-counts = all (λ c. ltb (total_of older.partitions) c) (drop (segments_in older.segments) newer.segments.counts)
  meets no_step_back = not (steps_back (unit_of newer.layout) newer.segments)

  pub meets_says : (h : Hypothesis) → meets h ≡ true → Says older newer h
  unfolding meets
  meets_says same-n t = eqb-true _ _ t
  meets_says same_moduli t = same_true eqb eqb-true _ _ t
  meets_says same_offsets t = same_true eqb eqb-true _ _ t
  meets_says same-delimiter t = eqb-true _ _ t
  meets_says kept-starts t = same_true eqb eqb-true _ _ t
  meets_says kept-ends t = same_true eqb eqb-true _ _ t
  meets_says last_end t = leb-true _ _ t
  meets_says kept-counts t = same_true eqb eqb-true _ _ t
  meets_says kept-times t = same_true eq_z eq_z_true _ _ t
  meets_says kept-rates t = same_true eqb eqb-true _ _ t
  meets_says further-counts t = t
  meets_says no_step_back t = not-true _ t

unfoldable pub passes : Table → Bool
passes t =
    all_of
    (layout_ok t.layout
    ∷ partitions_ok (product_of t.layout) t.partitions
    ∷ segments_ok (unit_of t.layout) (total_of t.partitions) t.segments
    ∷ [])

-- a test of a list that all hold
pub all_of_at : (ts : List Bool) (i : ℕ) → all_of ts ≡ true → get_or ts i true ≡ true
all_of_at [] i h = refl
all_of_at (t ∷ ts) zero h = all_of_head t ts h
all_of_at (t ∷ ts) (suc i) h = all_of_at ts i (all_of_tail t ts h)

pub passes_accepted : (t : Table) → passes t ≡ true → Accepted t
unfolding passes
passes_accepted t h = record { layout = all_of_at _ 0 h; partitions = all_of_at _ 1 h; segments = all_of_at _ 2 h }

-- the hypotheses by number
unfoldable pub hypotheses : List Hypothesis
hypotheses =
    same-n
    ∷ same_moduli
    ∷ same_offsets
    ∷ same-delimiter
    ∷ kept-starts
    ∷ kept-ends
    ∷ last_end
    ∷ kept-counts
    ∷ kept-times
    ∷ kept-rates
    ∷ further-counts
    ∷ no_step_back
    ∷ []

unfoldable pub index : Hypothesis → ℕ
index same-n = 0
index same_moduli = 1
index same_offsets = 2
index same-delimiter = 3
index kept-starts = 4
index kept-ends = 5
index last_end = 6
index kept-counts = 7
index kept-times = 8
index kept-rates = 9
index further-counts = 10
index no_step_back = 11

pub at_index : (h : Hypothesis) → get_or hypotheses (index h) same-n ≡ h
unfolding hypotheses index
at_index same-n = refl
at_index same_moduli = refl
at_index same_offsets = refl
at_index same-delimiter = refl
at_index kept-starts = refl
at_index kept-ends = refl
at_index last_end = refl
at_index kept-counts = refl
at_index kept-times = refl
at_index kept-rates = refl
at_index further-counts = refl
at_index no_step_back = refl

-- f holds of every hypothesis
unfoldable pub each : (Hypothesis → Bool) → Bool
each f = all_of (map f hypotheses)

all_of_map : (f : Hypothesis → Bool) (hs : List Hypothesis) (d : Hypothesis) (i : ℕ) → f d ≡ true → all_of (map f hs) ≡ true → f (get_or hs i d) ≡ true
all_of_map f [] d i e t = e
all_of_map f (h ∷ hs) d zero e t = all_of_head _ _ t
all_of_map f (h ∷ hs) d (suc i) e t = all_of_map f hs d i e (all_of_tail _ _ t)

pub each_at : (f : Hypothesis → Bool) → each f ≡ true → (h : Hypothesis) → f h ≡ true
unfolding each hypotheses
each_at f t h = rw (at_index h) at (all_of_map f hypotheses same-n (index h) (all_of_head _ _ t) t)

pub meets_all : (older newer : Table) → each (meets older newer) ≡ true → (h : Hypothesis) → Says older newer h
meets_all older newer t h = meets_says older newer h (each_at (meets older newer) t h)

-- demand 3 of two tables that are written out, by their tests
pub demand_3_by_tests : (older newer : Table) → passes older ≡ true → passes newer ≡ true → each (meets older newer) ≡ true → Demand3 older newer
demand_3_by_tests older newer was is t = demand_3 older newer (passes_accepted older was) (passes_accepted newer is) (meets_all older newer t)
