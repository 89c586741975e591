-- The promises of specs/Promises.antt.
use Prim.Native.Nat.{ℕ, suc, ◌-◌, ◌*◌, ◌≤◌, ◌<◌}
use mathlib.Core.Path.{◌≡◌, refl, sym, ap}
use mathlib.Core.Bool.{true, ◌&&◌}
use mathlib.Core.Option.{Option, none, some}
use lib.IntN.{ℤ, pos, negsuc}
use lib.Dec.{leb, ltb}
use lib.Signed.{le_z}
use borrow.Author.Tests.{leb-true, le-leb}
use native.Mathlib.Omega.{arith}
use Rattle.base.specs.Rounding.{round_up, round_down}
use Rattle.base.specs.Signed.{later, elapsed}
use Rattle.base.proofs.Tests.{by_test}
use Rattle.base.proofs.Rounding.{up_above, up_below, down_below, down_above}
use Rattle.rules.specs.Limits.{earliest_time, latest_time}
use Rattle.rules.specs.declared.Layout.{Layout}
use Rattle.rules.specs.declared.TimeOfCount.{TimeOfCount}
use Rattle.rules.specs.declared.CountAtTime.{CountAtTime}
use Rattle.rules.specs.Answer.{Answer, answer, time_of_count, count_at_time}
use Rattle.rules.specs.Layout.{layout_ok, product_of, unit_of}
use Rattle.rules.specs.Partitions.{Partitions, total_of, partitions_fault}
use Rattle.rules.specs.Segments.{Segments, row_of, line_at, segments_fault}
use Rattle.rules.specs.Facts.{SegmentsFacts}
use Rattle.rules.specs.Accepted.{accepted}
use Rattle.rules.specs.Time.{segment_of, segment_at, time_on, time_in, time_of, not_beyond, count_on, count_in, count_at, ticks_since, line_count, stopped_at}
use Rattle.rules.proofs.Accepted.{layout_facts, segments_facts}
use Rattle.rules.proofs.Answers.{payload, not_answer, unless-test, unless-rest, unless-at-none, unless-at-rest}
use Rattle.layouts.specs.Measure.{UnitFacts}
use Rattle.layouts.proofs.Units.{unit_facts}
use Rattle.time.specs.Promises.{TimeIsNearest, CountIsNearest, TickLasts, TimeInRange, TwelveNotThirteen}
use Rattle.conversion.proofs.Rows.{reached, count_below, count_row, time_row}

record Passed (A : Type 0) (l : Layout) (p : Partitions) (g : Segments) (a : Answer A) (x : A) : Type 0 where
  unit : UnitFacts (unit_of l)
  segments : SegmentsFacts (unit_of l) (total_of p) g
  rest : a ≡ answer x

passed : {A : Type 0} (l : Layout) (p : Partitions) (g : Segments) (a : Answer A) (x : A) → accepted l p g a ≡ answer x → Passed A l p g a x
unfolding accepted
passed l p g a x e =
    let e2 = unless-rest 1 (layout_ok l) _ x e in
    let e3 = unless-at-rest 2 (partitions_fault (product_of l) p) _ x e2 in
    record {
      unit = unit_facts l (layout_facts l (unless-test 1 (layout_ok l) _ x e));
      segments = segments_facts (unit_of l) (total_of p) g (rw (unless-at-none 3 (segments_fault (unit_of l) (total_of p) g) a x e3));
      rest = unless-at-rest 3 (segments_fault (unit_of l) (total_of p) g) a x e3;
    }

-- the segment behind an answer
time_found : (unit : ℕ) (g : Segments) (e : ℕ) (t : ℤ) (o : Option ℕ) → time_on unit g e o ≡ answer (time_of_count t) → (i : ℕ) × (o ≡ some i) × (t ≡ line_at unit (row_of g i) e)
unfolding time_on
time_found unit g e t (some i) h = (i, refl, sym (ap (λ (x : TimeOfCount). x.time) (payload h)))
time_found unit g e t none h = absurd (not_answer h)

count_given : (total c d : ℕ) → not_beyond total d ≡ answer (count_at_time c) → c ≡ d
unfolding not_beyond
count_given total c d h =
    sym (ap (λ (x : CountAtTime). x.count) (payload (unless-rest 14 (leb d total) (answer (count_at_time d)) (count_at_time c) h)))

count_found : (unit total : ℕ) (g : Segments) (t : ℤ) (c : ℕ) (o : Option ℕ) → count_on unit total g t o ≡ answer (count_at_time c)
    → (i : ℕ) × (o ≡ some i) × (c ≡ stopped_at g.counts i (line_count unit (row_of g i) t))
unfolding count_on
count_found unit total g t c (some i) h = (i, refl, count_given total c _ h)
count_found unit total g t c none h = absurd (not_answer h)

pub time_is_nearest : TimeIsNearest
unfolding time_of time_in line_at
time_is_nearest l p g e t h =
    let w = passed l p g _ _ h in
    let f = time_found (unit_of l) g e t (segment_of g.counts e) (unless-rest 12 (leb e (total_of p)) _ _ w.rest) in
    let u = w.unit.low in
    let x : ℕ = (row_of g f.0).rate * (e - (row_of g f.0).count) in
    (f.0, round_up x (unit_of l), f.1, f.2, record { at_or_after = up_above x (unit_of l) u; less_than_one_late = up_below x (unit_of l) u })

pub count_is_nearest : CountIsNearest
unfolding count_at count_in line_count ticks_since
count_is_nearest l p g t c h =
    let w = passed l p g _ _ h in
    let f = count_found (unit_of l) (total_of p) g t c (segment_at g.times t) (unless-rest 14 (le_z earliest_time t && le_z t latest_time) _ _ w.rest) in
    let i = f.0 in
    let r : 0 < (row_of g i).rate = positive w.unit.low (w.segments.each i (time_row (unit_of l) (total_of p) g w.segments w.unit t i f.1)).rate_low in
    let x : ℕ = elapsed (row_of g i).time t * unit_of l in
    (i, round_down x (row_of g i).rate, f.1, f.2, record { at_or_before = down_below x (row_of g i).rate; less_than_one_early = down_above x (row_of g i).rate r })
  where
    positive : {u r : ℕ} → 1 ≤ u → u ≤ r → 0 < r
    positive a b = omega arith

pub tick_lasts : TickLasts
tick_lasts unit total g h i b = ((segments_facts unit total g h).each i b).rate_low

-- a time later than one at or after the earliest
later_early : (t : ℤ) (d : ℕ) → le_z earliest_time t ≡ true → le_z earliest_time (later t d) ≡ true
unfolding later
later_early (pos m) d h = refl
later_early (negsuc m) d h =
    by_test (ltb d (suc m))
    (λ t. rw t (le-leb (suc m - suc d) 3_999_999_999_999_999_999 (less (leb-true m 3_999_999_999_999_999_999 h))))
    (λ f. rw f)
  where
    less : m ≤ 3_999_999_999_999_999_999 → suc m - suc d ≤ 3_999_999_999_999_999_999
    less q = omega arith

pub time_in_range : TimeInRange
unfolding time_of time_in line_at
time_in_range l p g e t h =
    let w = passed l p g _ _ h in
    let total = leb-true e (total_of p) (unless-test 12 (leb e (total_of p)) _ _ w.rest) in
    let f = time_found (unit_of l) g e t (segment_of g.counts e) (unless-rest 12 (leb e (total_of p)) _ _ w.rest) in
    let i = f.0 in
    let row = count_row (unit_of l) (total_of p) g w.segments w.unit e i f.1 in (
      rw f.2 (later_early (row_of g i).time _ (w.segments.each i row).early),
      rw f.2 (reached (unit_of l) (total_of p) g w.segments w.unit e i f.1 total),
    )

pub twelve_not_thirteen : TwelveNotThirteen
twelve_not_thirteen unit total g h e above =
    let f = segments_facts unit total g h in
    omega (arith, count_below unit total g f 0 (omega (arith, f.some)), above)
