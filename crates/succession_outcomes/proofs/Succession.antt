-- The promises of specs/Succession.antt.
use Prim.Native.Nat.{ℕ}
use native.Mathlib.Omega.{arith}
use mathlib.Core.Path.{◌≡◌, refl, sym}
use mathlib.Core.Bool.{Bool, true, false}
use mathlib.Core.Option.{Option, none, some}
use Rattle.base.proofs.Tests.{not_both}
use Rattle.base.proofs.Scans.{first_not_found}
use Rattle.rules.specs.Answer.{fails_at}
use Rattle.rules.specs.Partitions.{partitions_in, total_of}
use Rattle.rules.specs.Segments.{segments_in}
use Rattle.versions.specs.Versions.{Table, Accepted, Hypothesis}
use Rattle.versions.specs.Seam.{seam_of, SaysAtSeam}
use Rattle.versions.proofs.Seam.{says_at_seam}
use Rattle.versions.proofs.Demand3.{at_seam}
use Rattle.succession_rules.specs.declared.Condition.{Condition}
use Rattle.succession_rules.specs.declared.Condition.TheVariants as Asked
use Rattle.succession_rules.specs.declared.Failure.{Failure}
use Rattle.succession_rules.specs.OfTwo.{answered}
use Rattle.succession_rules.specs.Kept.{partition_kept, partition_lost, segment_kept, segment_lost, further_above, further_low, seam_back}
use Rattle.succession_rules.specs.Succession.{succeeds, fails, verdict, succession}
use Rattle.succession_rules.proofs.Rows.{partition_row, row_partition, segment_row, row_segment}
use Rattle.succession_outcomes.specs.Succession.{Holds, FirstRow, Succeeds, Failing, SuccessionMeans}
use Rattle.succession_outcomes.proofs.Refusals.{answers_both, both_answer}
use Rattle.succession_outcomes.proofs.Ladder.{row_of, Stopped, stopped, none_fails, all_pass}
use Rattle.succession_outcomes.proofs.Hypotheses.{above_at, at_above, further_within, none_holds, holds_none, says_all, all_holds}

found_none : {i : ℕ} {o : Option ℕ} → o ≡ some i → o ≡ none → ⊥
found_none {i} {o} a b = let z : ◌≡◌ {A = ℕ} 0 1 = cc in omega arith

fails_only : (n : ℕ) (t : Bool) (i : ℕ) → fails_at n t ≡ some i → i ≡ n
unfolding fails_at
fails_only n true i h = absurd (found_none h refl)
fails_only n false i h = let same : n ≡ i = cc in sym same

module _ (older newer : Table) where
  -- the row of a condition is the first that fails
  first_row : (c : Condition) (i : ℕ) → row_of older newer c ≡ some i → FirstRow older newer c i
  unfolding partition_lost segment_lost further_low seam_back
  first_row Asked.Layout i h = fails_only 0 _ i h
  first_row Asked.Partition i h =
      let p = older.partitions in
      let q = newer.partitions in
      let w = first_not_found (partition_kept p q) (partitions_in p) i h in
      record { within = omega arith; below = w.below; fails = λ r. not_both (row_partition p q i r) w.fails_here; before = λ j a b. partition_row p q j (w.before j b) }
  first_row Asked.Segment i h =
      let g = older.segments in
      let k = newer.segments in
      let w = first_not_found (segment_kept g k) (segments_in g) i h in
      record { within = omega arith; below = w.below; fails = λ r. not_both (row_segment g k i r) w.fails_here; before = λ j a b. segment_row g k j (w.before j b) }
  first_row Asked.Further i h =
      let w = first_not_found (further_above (total_of older.partitions) (segments_in older.segments) newer.segments.counts) (segments_in newer.segments) i h in
      record {
        within = further_within older newer i w.fails_here;
        below = w.below;
        fails = λ r. not_both (at_above older newer i (λ b. r)) w.fails_here;
        before = λ j a b. above_at older newer j a (w.before j b);
      }
  first_row Asked.Seam i h = fails_only (seam_of older) _ i h

  module _ (was : Accepted older) (is : Accepted newer) where
    failing : (f : Failure) → Stopped older newer f → Failing older newer f
    failing f w =
        let out : Holds older newer f.condition → ⊥ = λ h. found_none w.here (holds_none older newer was is f.condition h) in
        record {
          accepted_older = was;
          accepted_newer = is;
          fails = out;
          before = λ c b. none_holds older newer was is c (w.before c b);
          row = first_row f.condition f.row w.here;
          not_all = λ s. out (all_holds older newer (says_at_seam older newer s) f.condition);
        }

    says : verdict older newer ≡ succeeds → (h : Hypothesis) → SaysAtSeam older newer h
    says e = says_all older newer (λ c. none_holds older newer was is c (none_fails older newer e c))

  yes : succession older newer ≡ answered succeeds → Succeeds older newer
  unfolding succession
  yes h =
      let w = answers_both older newer (verdict older newer) succeeds h in
      record { accepted_older = w.0; accepted_newer = w.1; says = says w.0 w.1 w.2 }

  only_then : Succeeds older newer → succession older newer ≡ answered succeeds
  unfolding succession
  only_then w =
      let was = w.accepted_older in
      let is = w.accepted_newer in
      both_answer older newer (verdict older newer) succeeds was is
      (all_pass older newer (λ c. holds_none older newer was is c (all_holds older newer w.says c)))

  no : (f : Failure) → succession older newer ≡ answered (fails f) → Failing older newer f
  unfolding succession
  no f h =
      let w = answers_both older newer (verdict older newer) (fails f) h in
      failing w.0 w.1 f (stopped older newer f w.2)

  pub succession_means : SuccessionMeans older newer
  succession_means =
      record {
        yes = yes;
        only_then = only_then;
        demand_3 = λ h. let w = yes h in at_seam older newer w.accepted_older w.accepted_newer w.says;
        no = no;
      }
