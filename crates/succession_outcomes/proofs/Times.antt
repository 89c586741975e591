-- Two tables that share their first n segments: every count below the next one, in either, has one time.
use Prim.Native.Nat.{ℕ, zero, suc, ◌+◌, ◌-◌, ◌≤◌, ◌<◌}
use native.Mathlib.Omega.{arith}
use mathlib.Core.Path.{◌≡◌, refl, sym, ap, ◌∙◌}
use mathlib.Core.Bool.{true}
use mathlib.Core.Option.{Option, none, some}
use lib.Dec.{leb}
use borrow.Author.Tests.{le-leb, lt-leb, lt-ltb}
use Rattle.base.specs.Scans.{last_below}
use Rattle.base.proofs.Scans.{last_found}
use Rattle.rules.specs.Answer.{answer, unless, time_of_count}
use Rattle.rules.specs.Segments.{Segments, segments_in, row_of, line_at}
use Rattle.rules.specs.Facts.{SegmentsFacts}
use Rattle.rules.specs.Time.{segment_of, time_on, time_in}
use Rattle.versions.proofs.Lists.{last_more}
use Rattle.succession_rules.specs.Kept.{segment_kept, segment_lost}
use Rattle.succession_rules.specs.Horizon.{shared_rows, begins_at, agree_below}
use Rattle.succession_rules.proofs.Found.{row_before_lem, row_most}
use Rattle.succession_rules.proofs.Rows.{segment_row, rows_fit}

-- the first n segments of g and h are equal, and every other begins above e
pub record Shared (g h : Segments) (n e : ℕ) : Type 0 where
  pub in-older : n ≤ segments_in g
  pub in-newer : n ≤ segments_in h
  pub rows : (i : ℕ) → i < n → row_of h i ≡ row_of g i
  pub older_above : (i : ℕ) → n ≤ i → i < segments_in g → e < (row_of g i).count
  pub newer_above : (i : ℕ) → n ≤ i → i < segments_in h → e < (row_of h i).count

module _ (g h : Segments) (n e : ℕ) (s : Shared g h n e) where
  among_shared : segment_of g.counts e ≡ last_below (λ i. leb (row_of g i).count e) n
  unfolding segment_of
  among_shared =
      last_more (λ i. leb (row_of g i).count e) (λ i. leb (row_of g i).count e) n (segments_in g) s.in-older (λ i b. refl)
      (λ i b c. lt-leb (row_of g i).count e (s.older_above i b c))

  segment_same : segment_of h.counts e ≡ segment_of g.counts e
  unfolding segment_of
  segment_same =
      last_more (λ i. leb (row_of g i).count e) (λ i. leb (row_of h i).count e) n (segments_in h) s.in-newer (λ i b. ap (λ r. leb r.count e) (s.rows i b))
      (λ i b c. lt-leb (row_of h i).count e (s.newer_above i b c))
      ∙ sym among_shared

  time_same : (unit : ℕ) (x : Option ℕ) → segment_of g.counts e ≡ x → time_on unit h e x ≡ time_on unit g e x
  unfolding time_on
  time_same unit none q = refl
  time_same unit (some i) q =
      ap (λ r. answer (time_of_count (line_at unit r e))) (s.rows i (last_found (λ i. leb (row_of g i).count e) n i (sym among_shared ∙ q)).below)

  pub one_time : (unit total grown : ℕ) → e ≤ total → e ≤ grown → time_in unit grown h e ≡ time_in unit total g e
  unfolding time_in unless
  one_time unit total grown a b = rw (le-leb e total a, le-leb e grown b, segment_same) (time_same unit (segment_of g.counts e) refl)

-- counts grow from row to row
grow_by : (unit total : ℕ) (g : Segments) → SegmentsFacts unit total g → (i d : ℕ) → i + d < segments_in g → (row_of g i).count ≤ (row_of g (i + d)).count
grow_by unit total g f i zero b = let e : i + zero ≡ i = omega arith in rw e (omega arith)
grow_by unit total g f i (suc d) b =
    let e : i + suc d ≡ i + d + 1 = omega arith in
    rw e (omega (arith, grow_by unit total g f i d (omega arith), (f.grow (i + d) (omega arith)).counts))

-- from row n on every segment begins at row n's count or above it
above_from : (unit total a e n : ℕ) (g : Segments) → SegmentsFacts unit total g → e < begins_at a g.counts n → (i : ℕ) → n ≤ i → i < segments_in g → e < (row_of g i).count
unfolding begins_at
above_from unit total a e n g f h i b c =
    let first : e < (row_of g n).count = rw (lt-ltb n (segments_in g) (omega arith)) at h in
    let k : n + (i - n) ≡ i = omega arith in
    let up = rw k at (grow_by unit total g f n (i - n) (omega arith)) in
    omega arith

-- below the horizon
module _ (unit total unit' total' a e : ℕ) (g h : Segments) (fg : SegmentsFacts unit total g) (fh : SegmentsFacts unit' total' h) (below : e < agree_below a g h) where
  before_shared : (i : ℕ) → i < shared_rows g h → segment_kept g h i ≡ true
  unfolding shared_rows segment_lost
  before_shared i b = row_before_lem (segment_kept g h) (segments_in g) (shared_rows g h) refl i b

  most_shared : shared_rows g h ≤ segments_in g
  unfolding shared_rows segment_lost
  most_shared = row_most (segment_kept g h) (segments_in g) (shared_rows g h) refl

  pub below_total : e < a
  unfolding agree_below
  below_total = omega (arith, below)

  older_begins : e < begins_at a g.counts (shared_rows g h)
  unfolding agree_below
  older_begins = omega (arith, below)

  newer_begins : e < begins_at a h.counts (shared_rows g h)
  unfolding agree_below
  newer_begins = omega (arith, below)

  row_same : (i : ℕ) → i < shared_rows g h → row_of h i ≡ row_of g i
  row_same i b = let w = segment_row g h i (before_shared i b) in rw (w.count, w.time, w.rate)

  pub shared : Shared g h (shared_rows g h) e
  shared =
      record {
        in-older = most_shared;
        in-newer = rows_fit _ _ (λ i b. (segment_row g h i (before_shared i b)).there);
        rows = row_same;
        older_above = above_from unit total a e (shared_rows g h) g fg older_begins;
        newer_above = above_from unit' total' a e (shared_rows g h) h fh newer_begins;
      }
