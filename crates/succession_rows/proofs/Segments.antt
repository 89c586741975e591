-- Segments that are kept, row by row; further rows; the seam.
use Prim.Native.Nat.{ℕ, ◌+◌, ◌<◌}
use mathlib.Core.Path.{◌≡◌, sym, ◌∙◌}
use mathlib.Core.Bool.{true, ◌&&◌, and-true, true≢false}
use mathlib.Core.List.{List}
use lib.Dec.{eqb}
use lib.IntN.{ℤ}
use lib.ListN.{length}
use lib.Signed.{le_z}
use borrow.Author.Tests.{lt-ltb}
use Rattle.base.specs.Scans.{all_of}
use Rattle.base.proofs.Tests.{by_test, or_first}
use Rattle.base.proofs.Scans.{all_from}
use Rattle.base.proofs.Signed.{before_at_most}
use Rattle.rules.specs.declared.Segment.{Segment}
use Rattle.rules.specs.Segments.{segments, row_of}
use Rattle.segments.specs.Rows.{RowIn, Rising}
use Rattle.std.specs.Ordering.{int_eq}
use Rattle.std.proofs.lemmas.Bool.Decides.{Decides-int_eq}
use Rattle.versions.specs.Equal.{eq_z}
use Rattle.versions.proofs.Equal.{eq_eq_z, ne_eq_z}
use Rattle.succession_rules.specs.Kept.{same_segment, further_above}
use Rattle.succession_rows.proofs.Scanned.{HeldTo}

-- `==` of two segments
int_eq_z : (a b : ℤ) → eq_z a b ≡ int_eq a b
int_eq_z a b =
    by_test (int_eq a b)
    (λ t. rw (t, eq_eq_z a b ((Decides-int_eq a b).0 t)))
    (λ f. rw (f, ne_eq_z a b (λ e. true≢false (sym ((Decides-int_eq a b).1 e) ∙ f))))

pub segment_tests : (older newer : Segment) → same_segment older newer ≡ (eqb newer.count older.count && (int_eq newer.time older.time && eqb newer.rate older.rate))
unfolding same_segment all_of
segment_tests older newer = rw (int_eq_z newer.time older.time, and-true (eqb newer.rate older.rate))

-- a row of lists of one length
pub row_in : (cs : List ℕ) (ts : List ℤ) (rs : List ℕ) → Rising (segments cs ts rs) → (i : ℕ) → i < length cs → RowIn (segments cs ts rs) i
row_in cs ts rs g i h = record { count = h; time = rw g.times_length h; rate = rw g.rates_length h }

-- further rows, after the first `kept`
pub above_start : (total kept : ℕ) (cs : List ℕ) → HeldTo (further_above total kept cs) kept
unfolding further_above
above_start total kept cs = record { before = all_from (further_above total kept cs) kept (λ i h. or_first _ (lt-ltb i kept h)) }

-- the times of two rows that follow each other
pub times_up : (cs : List ℕ) (ts : List ℤ) (rs : List ℕ) (i : ℕ) → Rising (segments cs ts rs) → i + 1 < length cs
    → le_z (row_of (segments cs ts rs) i).time (row_of (segments cs ts rs) (i + 1)).time ≡ true
times_up cs ts rs i g b = before_at_most (row_of (segments cs ts rs) i).time (row_of (segments cs ts rs) (i + 1)).time (g.grow i b).times
