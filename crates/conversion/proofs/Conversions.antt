-- The ways out of the two conversions within accepted segments.
use Prim.Native.Nat.{ℕ, ◌+◌, ◌-◌, ◌^◌, ◌≤◌, ◌<◌, min}
use mathlib.Core.Path.{◌≡◌, sym, ap, ◌∙◌}
use mathlib.Core.Bool.{Bool, true, false, not, ◌&&◌}
use mathlib.Core.List.{List}
use mathlib.Core.Option.{some}
use lib.IntN.{ℤ}
use lib.Dec.{leb, ltb}
use lib.ListN.{length, get_or}
use lib.Signed.{le_z}
use mir.Syntax.{w64}
use mir.Val.{Fits, SFits, to_z, of_z}
use mir.Facts.{to_z-of_z}
use borrow.Author.Tests.{le-leb, lt-leb, leb-true, leb-false, lt-ltb, le-ltb, not-true, not-false}
use native.Mathlib.Omega.{arith}
use Rattle.base.proofs.Tests.{by_test, and_second}
use Rattle.rules.specs.Limits.{earliest_time, latest_time}
use Rattle.rules.specs.declared.Segment.{Segment}
use Rattle.rules.specs.Answer.{Answer, answer, refuse, unless, time_of_count}
use Rattle.rules.specs.Segments.{Segments, segments, row_of, line_at}
use Rattle.rules.specs.Facts.{SegmentsFacts}
use Rattle.rules.specs.Time.{segment_of, segment_at, time_on, time_in, ticks_since, line_count, stopped_at, not_beyond, count_on, count_in}
use Rattle.rules.specs.declared.TimeOfCount.{TimeOfCount}
use Rattle.rules.specs.declared.CountAtTime.{CountAtTime}
use Rattle.tables.specs.Accept.{BasisFacts}
use Rattle.segments.specs.Rows.{RowIn}
use Rattle.segment_line.specs.Line.{ToTime, ToTicks}
use Rattle.std.specs.Prelude.{Some, None}
use Rattle.std.specs.Prelude.{Option as Row}
use Rattle.segment_search.specs.Found.{found}
use Rattle.segment_search.specs.Growing.{CountsGrow, TimesGrow}
use Rattle.conversion.specs.LastCount.{HasCount, last_count}
use Rattle.conversion.proofs.Rows.{count_below, next_positive, in-lists, count_row, line_to_time, time_row, line_to_ticks, ticks_small}

-- the code has n counts and the next one, wherever they lie
module _ (counts : List ℕ) (i : ℕ) (w : HasCount counts i) (n : ℕ) (en : n ≡ length counts) where
  pub next_fits : Fits w64 n → Fits w64 (i + 1)
  next_fits f = record { fits = omega (arith, w.there, f.fits) }

  pub next_inside : i + 1 < n → i + 1 < length counts
  next_inside h = rw en at h

  pub next_positive_at : i + 1 < n → (x : ℕ) → x ≡ get_or counts (i + 1) 0 → 1 ≤ x
  next_positive_at h x e = rw e (w.next (rw en at h))

  pub next_ends : i + 1 < n → (x : ℕ) → x ≡ get_or counts (i + 1) 0 → x - 1 ≡ last_count counts i
  unfolding last_count
  next_ends h x e = rw (lt-ltb _ _ (rw en at h), e)

  pub last_ends : n ≤ i + 1 → 2 ^ 64 - 1 ≡ last_count counts i
  unfolding last_count
  last_ends h = rw (le-ltb _ _ (rw en at h))

stopped_is : (counts : List ℕ) (i c : ℕ) → HasCount counts i → c < 2 ^ 64 → stopped_at counts i c ≡ min c (last_count counts i)
unfolding stopped_at last_count
stopped_is counts i c w small =
    by_test (ltb (i + 1) (length counts))
    (λ t. rw t (by_test (leb (get_or counts (i + 1) 0) c)
    (λ u. rw u (omega (arith, leb-true (get_or counts (i + 1) 0) c u)))
    (λ v. rw v (omega (arith, leb-false (get_or counts (i + 1) 0) c v)))))
    (λ f. rw f (omega arith))

module _ (unit total : ℕ) (counts : List ℕ) (times : List ℤ) (rates : List ℕ) where
  abbrev g : Segments
  g = segments counts times rates

  module _ (fg : SegmentsFacts unit total g) where
    pub counts_grow : CountsGrow counts
    counts_grow = record { grow = λ i h. (fg.grow i h).counts }

    pub times_grow : TimesGrow times
    times_grow = record { grow = λ i h. (fg.grow i (rw fg.times_length at h)).times }

  pub beyond_total : (e : ℕ) → total < e → refuse 12 ≡ time_in unit total g e
  unfolding time_in unless
  beyond_total e h = rw (lt-leb e total h)

  module _ (e : ℕ) (r : Row ℕ) (s : found r ≡ segment_of counts e) where
    pub before_first : e ≤ total → r ≡ None → refuse 13 ≡ time_in unit total g e
    unfolding time_in unless time_on
    before_first h q = rw (le-leb e total h, sym s, q)

    module _ (i : ℕ) (q : r ≡ Some i) where
      at_row : segment_of counts e ≡ some i
      at_row = rw q at (sym s)

      module _ (fg : SegmentsFacts unit total g) (fb : BasisFacts unit total) where
        pub count_in_lists : RowIn g i
        count_in_lists = in-lists unit total g fg i (count_row unit total g fg fb.divides e i at_row)

        pub row_to_time : (row : Segment) → row ≡ row_of g i → e ≤ total → ToTime unit row e
        row_to_time row there h = rw there (line_to_time unit total g fg fb.divides e i at_row h)

      pub time_is : (row : Segment) (z : TimeOfCount) → row ≡ row_of g i → e ≤ total → z ≡ time_of_count (line_at unit row e) → answer z ≡ time_in unit total g e
      unfolding time_in unless time_on
      time_is row z there h v = rw (le-leb e total h, at_row, v, there)

  pub out_of_range : (t : ℤ) (b : Bool) → SFits w64 t → b ≡ (le_z earliest_time (to_z w64 (of_z w64 t)) && le_z (to_z w64 (of_z w64 t)) latest_time) → not b ≡ true → refuse 14 ≡ count_in unit total g t
  unfolding count_in unless
  out_of_range t b f e h = rw (rw (to_z-of_z f) at (sym e) ∙ not-true b h)

  module _ (t : ℤ) (b : Bool) (ft : SFits w64 t) (e : b ≡ (le_z earliest_time (to_z w64 (of_z w64 t)) && le_z (to_z w64 (of_z w64 t)) latest_time)) (h : not b ≡ false) (r : Row ℕ) (s : found r ≡ segment_at times (to_z w64 (of_z w64 t))) where
    both : (le_z earliest_time t && le_z t latest_time) ≡ true
    both = rw (to_z-of_z ft) at (sym e) ∙ not-false b h

    pub before_all : r ≡ None → refuse 13 ≡ count_in unit total g t
    unfolding count_in unless count_on
    before_all q = rw (both, ← (to_z-of_z ft), ← s, q)

    module _ (i : ℕ) (q : r ≡ Some i) where
      at_time_row : segment_at times t ≡ some i
      at_time_row = rw (to_z-of_z ft, q) at (sym s)

      module _ (fg : SegmentsFacts unit total g) (fb : BasisFacts unit total) where
        pub time_in_lists : RowIn g i
        time_in_lists = in-lists unit total g fg i (time_row unit total g fg fb.divides t i at_time_row)

        pub has_count : HasCount counts i
        has_count = record { there = time_row unit total g fg fb.divides t i at_time_row; next = next_positive unit total g fg i }

        pub row_to_ticks : (row : Segment) → row ≡ row_of g i → ToTicks unit row (to_z w64 (of_z w64 t))
        row_to_ticks row there = rw (there, to_z-of_z ft) (line_to_ticks unit total g fg fb.divides t i at_time_row)

        sum_small : line_count unit (row_of g i) t < 2 ^ 64
        unfolding line_count
        sum_small =
            sum (count_below unit total g fg i (time_row unit total g fg fb.divides t i at_time_row)) (ticks_small unit total g fg fb.divides t i at_time_row ft.sfits (and_second (le_z earliest_time t) (le_z t latest_time) both))
          where
            sum : {c x : ℕ} → c ≤ total → x ≤ 8_000_000_000_000_000_000 → c + x < 2 ^ 64
            sum a b = omega (arith, fb.small)

        pub row_sum_fits : (row : Segment) → row ≡ row_of g i → line_count unit row (to_z w64 (of_z w64 t)) < 2 ^ 64
        row_sum_fits row there = rw (there, to_z-of_z ft) sum_small

        pub count_is : (row : Segment) (last : ℕ) (a : Answer CountAtTime) → row ≡ row_of g i → last ≡ last_count counts i → a ≡ not_beyond total (min (line_count unit row (to_z w64 (of_z w64 t))) last) → a ≡ count_in unit total g t
        unfolding count_in unless count_on
        count_is row last a there e y = y ∙ rw (e, there, to_z-of_z ft, both, at_time_row, stopped_is counts i (line_count unit (row_of g i) t) has_count sum_small)

-- on one row
pub sum_fits : (unit : ℕ) (row : Segment) (t : ℤ) (k : ℕ) → SFits w64 t → line_count unit row t < 2 ^ 64 → k ≡ ticks_since unit row (to_z w64 (of_z w64 t)) → Fits w64 (row.count + k)
unfolding line_count
sum_fits unit row t k ft small e = record { fits = rw (e, to_z-of_z ft) small }

pub row_count : (unit total : ℕ) (row : Segment) (last : ℕ) (t : ℤ) (k c : ℕ) (a : Answer CountAtTime) → SFits w64 t → k ≡ ticks_since unit row (to_z w64 (of_z w64 t)) → c ≡ min (row.count + k) last → a ≡ not_beyond total c → a ≡ not_beyond total (min (line_count unit row t) last)
unfolding line_count
row_count unit total row last t k c a ft e f y = y ∙ rw (f, e, to_z-of_z ft)

pub row_time : (unit : ℕ) (row : Segment) (e : ℕ) (z : ℤ) → SFits w64 z → z ≡ line_at unit row e → time_of_count (to_z w64 (of_z w64 z)) ≡ time_of_count (line_at unit row e)
row_time unit row e z f h = ap time_of_count (to_z-of_z f ∙ h)
