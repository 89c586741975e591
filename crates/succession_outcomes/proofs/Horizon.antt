-- The promises of specs/Horizon.antt.
use Prim.Native.Nat.{ℕ, ◌≤◌, ◌<◌}
use native.Mathlib.Omega.{arith}
use mathlib.Core.Path.{◌≡◌}
use mathlib.Core.Bool.{true, false}
use lib.Dec.{ltb}
use borrow.Author.Tests.{ltb-true, le-ltb}
use Rattle.base.proofs.Tests.{by_test, and_both, and_first, and_second}
use Rattle.base.proofs.Scans.{nothing}
use Rattle.rules.specs.Partitions.{total_of}
use Rattle.rules.specs.Segments.{segments_in}
use Rattle.rules.specs.Time.{time_of}
use Rattle.versions.specs.Versions.{Table, Accepted, time_by}
use Rattle.versions.proofs.Layouts.{OneLayout, unit_same}
use Rattle.versions.proofs.Partitions.{KeptPartitions, total_up}
use Rattle.versions.proofs.Kept.{layout_from, old_segments, new_segments, further_from}
use Rattle.versions.proofs.Demand3.{through_three, reads_agree}
use Rattle.succession_rules.specs.declared.Condition.TheVariants as Asked
use Rattle.succession_rules.specs.Kept.{row_or, same_layout}
use Rattle.succession_rules.specs.Succession.{succeeds, verdict, succession}
use Rattle.succession_rules.specs.Horizon.{shared_rows, begins_at, agree_below, stamps_kept, horizon_in, horizon_of}
use Rattle.succession_outcomes.specs.Horizon.{AgreeBelow, HorizonMeans}
use Rattle.succession_outcomes.proofs.Refusals.{answers_both, both_answer}
use Rattle.succession_outcomes.proofs.Ladder.{none_fails}
use Rattle.succession_outcomes.proofs.Hypotheses.{nowhere, holds_nowhere, layout_holds, rows_partitions, none_holds}
use Rattle.succession_outcomes.proofs.Times.{shared, below_total, one_time}
use Rattle.succession_outcomes.proofs.Reading.{newer_read}

module _ (older newer : Table) (was : Accepted older) (is : Accepted newer) where
  -- where the horizon is not 0
  module _ (kept : stamps_kept older newer ≡ true) where
    one : OneLayout older.layout newer.layout
    unfolding stamps_kept
    one =
        let w = layout_holds older newer (holds_nowhere 0 _ (and_first (same_layout older.layout newer.layout) _ kept)) in
        layout_from older newer w.0 w.1 w.2 w.3

    rows : KeptPartitions older.partitions newer.partitions
    unfolding stamps_kept
    rows = rows_partitions older newer was is (nothing _ (and_second (same_layout older.layout newer.layout) _ kept))

    below : (h e : ℕ) → horizon_in older newer ≡ h → e < h → e < agree_below (total_of older.partitions) older.segments newer.segments
    unfolding horizon_in
    below h e q l = let same = rw kept at q in omega arith

    one_time_in : (e : ℕ) → e < agree_below (total_of older.partitions) older.segments newer.segments → time_by newer e ≡ time_by older e
    unfolding time_of
    one_time_in e l =
        let fg = old_segments older newer was is in
        let fh = new_segments older newer was is in
        let u = below_total _ _ _ _ _ e older.segments newer.segments fg fh l in
        rw (through_three older was, through_three newer is, unit_same _ _ one)
        (one_time older.segments newer.segments _ e (shared _ _ _ _ _ e older.segments newer.segments fg fh l) _ _ _ (omega arith) (omega (arith, total_up _ _ rows)))

    within_total : (h : ℕ) → horizon_in older newer ≡ h → h ≤ total_of older.partitions
    unfolding horizon_in agree_below
    within_total h q = let same = rw kept at q in omega arith

    agrees : (h : ℕ) → horizon_in older newer ≡ h → AgreeBelow older newer h
    agrees h q =
        record {
          one_time = λ e l. one_time_in e (below h e q l);
          older_reads = λ s r a l. (reads_agree older newer was is one rows s).same r a;
          newer_reads = λ s r a l. newer_read older newer was is one rows s r a (omega (arith, within_total h q));
          within = within_total h q;
        }

  no_horizon : stamps_kept older newer ≡ false → (h : ℕ) → horizon_in older newer ≡ h → AgreeBelow older newer h
  unfolding horizon_in
  no_horizon f h q =
      let zero_is : 0 ≡ h = rw f at q in
      record {
        one_time = λ e l. absurd (omega arith);
        older_reads = λ s r a l. absurd (omega arith);
        newer_reads = λ s r a l. absurd (omega arith);
        within = omega arith;
      }

  agree_in : (h : ℕ) → horizon_in older newer ≡ h → AgreeBelow older newer h
  agree_in h q = by_test (stamps_kept older newer) (λ t. agrees t h q) (λ f. no_horizon f h q)

  module _ (yes : verdict older newer ≡ succeeds) where
    kept_all : stamps_kept older newer ≡ true
    unfolding stamps_kept
    kept_all = and_both (nowhere 0 _ (none_fails older newer yes Asked.Layout)) (rw (none_fails older newer yes Asked.Partition))

    all_shared : shared_rows older.segments newer.segments ≡ segments_in older.segments
    unfolding shared_rows row_or
    all_shared = rw (none_fails older newer yes Asked.Segment)

    older_ended : begins_at (total_of older.partitions) older.segments.counts (segments_in older.segments) ≡ total_of older.partitions
    unfolding begins_at
    older_ended = rw (le-ltb (segments_in older.segments) (segments_in older.segments) (omega arith))

    newer_beyond : total_of older.partitions ≤ begins_at (total_of older.partitions) newer.segments.counts (segments_in older.segments)
    unfolding begins_at
    newer_beyond =
        by_test (ltb (segments_in older.segments) (segments_in newer.segments))
        (λ t. rw t (below_count (further_from older newer was is (none_holds older newer was is Asked.Further (none_fails older newer yes Asked.Further)) _ (omega arith) (ltb-true _ _ t))))
        (λ f. rw f (omega arith))
      where
        below_count : {a b : ℕ} → a < b → a ≤ b
        below_count l = omega arith

    whole_in : horizon_in older newer ≡ total_of older.partitions
    unfolding horizon_in agree_below
    whole_in = rw (kept_all, all_shared, older_ended) (omega (arith, newer_beyond))

pub horizon_means : (older newer : Table) → HorizonMeans older newer
unfolding horizon_of succession
horizon_means older newer =
    record {
      agree = λ h q. let w = answers_both older newer (horizon_in older newer) h q in agree_in older newer w.0 w.1 h w.2;
      whole = λ q. let w = answers_both older newer (verdict older newer) succeeds q in
          both_answer older newer (horizon_in older newer) _ w.0 w.1 (whole_in older newer w.0 w.1 w.2);
    }
