-- What row i must meet, once it is after the row before it, by whether there is a next row.
use Prim.Native.Nat.{ℕ, ◌+◌, ◌≤◌, ◌<◌}
use mathlib.Core.Path.{◌≡◌}
use mathlib.Core.Bool.{true, false, ◌&&◌, and-true}
use mathlib.Core.Option.{Option}
use lib.Dec.{leb}
use lib.ListN.{get_or}
use borrow.Author.Tests.{lt-ltb, le-ltb}
use Rattle.base.specs.Scans.{all_of}
use Rattle.base.proofs.Tests.{and_out_first, and_out_second}
use Rattle.rules.specs.declared.Segment.{Segment}
use Rattle.rules.specs.Segments.{Segments, segments_in, row_of, row_before, row_ok, follows, line_ok, segment_end, segment_ok, within_total, segment_ok_at}

row_is : (unit : ℕ) (before : Option Segment) (s : Segment) (end : ℕ) → follows before s ≡ true → segment_ok unit before s end ≡ (row_ok unit s && line_ok unit s end)
unfolding segment_ok all_of
row_is unit before s end f = rw (f, and-true)

module _ (unit total : ℕ) (g : Segments) (i : ℕ) where
  module _ (f : follows (row_before g i) (row_of g i) ≡ true) where
    pub inner_row : i + 1 < segments_in g → segment_ok_at unit total g i ≡ (row_ok unit (row_of g i) && line_ok unit (row_of g i) (get_or g.counts (i + 1) 0))
    unfolding segment_ok_at segment_end within_total
    inner_row h = rw (lt-ltb _ _ h, row_is unit (row_before g i) (row_of g i) (get_or g.counts (i + 1) 0) f) (and-true _)

    pub last_row : segments_in g ≤ i + 1 → segment_ok_at unit total g i ≡ ((row_ok unit (row_of g i) && line_ok unit (row_of g i) total) && leb (row_of g i).count total)
    unfolding segment_ok_at segment_end within_total
    last_row h = rw (le-ltb _ _ h, row_is unit (row_before g i) (row_of g i) total f)

  pub not_grown : follows (row_before g i) (row_of g i) ≡ false → segment_ok_at unit total g i ≡ false
  unfolding segment_ok_at segment_ok all_of
  not_grown n = and_out_first _ (and_out_second (row_ok unit (row_of g i)) (rw n))
