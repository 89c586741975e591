-- From accepted tables and the row that was found to what its line needs.
use Prim.Native.Nat.{ℕ, zero, suc, ◌+◌, ◌-◌, ◌*◌, ◌^◌, ◌≤◌, ◌<◌}
use mathlib.Core.Path.{◌≡◌, sym, ◌∙◌}
use mathlib.Core.Bool.{true, false}
use mathlib.Core.Option.{some}
use lib.IntN.{ℤ, pos, negsuc}
use lib.Dec.{leb, ltb, lit<}
use lib.ListN.{get_or}
use lib.Signed.{le_z, mag}
use borrow.Author.Tests.{leb-true, leb-false, le-leb, lt-ltb, ltb-true, ltb-false}
use native.Mathlib.Nat.{mul-le-mul_left, le_trans, le_of_mul-le-mul_right}
use native.Mathlib.Omega.{arith}
use Rattle.base.specs.Rounding.{round_down}
use Rattle.base.specs.Signed.{later, elapsed, ordinal}
use Rattle.base.proofs.Tests.{by_test}
use Rattle.base.proofs.Scans.{last_found}
use Rattle.base.proofs.Rounding.{up_grows, down_below}
use Rattle.base.proofs.Signed.{ordinal_le, ordinal_elapsed}
use Rattle.rules.specs.Limits.{latest_time, earliest_time}
use Rattle.rules.specs.Segments.{Segments, segments_in, row_of, line_at, segment_end}
use Rattle.rules.specs.Facts.{SegmentsFacts}
use Rattle.rules.specs.Time.{segment_of, segment_at, ticks_since}
use Rattle.layouts.specs.Measure.{UnitFacts}
use Rattle.segments.specs.Rows.{RowIn}
use Rattle.segment_line.specs.Line.{ToTime, ToTicks}

-- a time that is at most k stays so where less is added
later_down : (t : ℤ) (d e k : ℕ) → d ≤ e → le_z (later t e) (pos k) ≡ true → le_z (later t d) (pos k) ≡ true
unfolding later
later_down (pos m) d e k h l = le-leb (m + d) k (down (leb-true (m + e) k l))
  where
    down : m + e ≤ k → m + d ≤ k
    down q = omega arith
later_down (negsuc m) d e k h l =
    by_test (ltb d (suc m))
    (λ t. rw t)
    (λ f. rw f (le-leb (d - suc m) k (less (ltb-false d (suc m) f))))
  where
    after : suc m ≤ d → ltb e (suc m) ≡ false
    after q = borrow.Author.Tests.le-ltb e (suc m) (omega arith)

    less : suc m ≤ d → d - suc m ≤ k
    less q = let w : e - suc m ≤ k = leb-true (e - suc m) k (rw (after q) at l) in omega arith

-- a time later than one in range and at most k is in range
later_small : (b k : ℕ) (t : ℤ) (d : ℕ) → k < b → mag t < b → le_z (later t d) (pos k) ≡ true → mag (later t d) < b
unfolding later
later_small b k (pos m) d h s l = let w : m + d ≤ k = leb-true (m + d) k l in omega arith
later_small b k (negsuc m) d h s l =
    by_test (ltb d (suc m))
    (λ t. rw t (omega arith))
    (λ f. rw f (let w : d - suc m ≤ k = leb-true (d - suc m) k (rw f at l) in omega arith))

-- times in ±4×10^18 are in range of 64 bits
time_small : (t : ℤ) → le_z earliest_time t ≡ true → le_z t latest_time ≡ true → mag t < 2 ^ 63
time_small (pos n) a b = let w : n ≤ 4_000_000_000_000_000_000 = leb-true n 4_000_000_000_000_000_000 b in omega arith
time_small (negsuc n) a b = let w : n ≤ 3_999_999_999_999_999_999 = leb-true n 3_999_999_999_999_999_999 a in omega arith

-- how far apart two times in range are
apart : (s t : ℕ) → ordinal (2 ^ 63) earliest_time ≤ s → t ≤ ordinal (2 ^ 63) latest_time → t - s ≤ 8_000_000_000_000_000_000
unfolding ordinal
apart s t h k = omega arith

elapsed_small : (s t : ℤ) → le_z earliest_time s ≡ true → le_z s t ≡ true → le_z t latest_time ≡ true → mag s < 2 ^ 63 → mag t < 2 ^ 63 → elapsed s t ≤ 8_000_000_000_000_000_000
elapsed_small s t a b c ms mt =
    rw (ordinal_elapsed (2 ^ 63) s t ms mt b)
    (apart _ _ (leb-true _ _ (sym (ordinal_le (2 ^ 63) earliest_time s (lit< tt) ms) ∙ a)) (leb-true _ _ (sym (ordinal_le (2 ^ 63) t latest_time mt (lit< tt)) ∙ c)))

module _ (unit total : ℕ) (g : Segments) (fg : SegmentsFacts unit total g) where
  -- counts grow
  counts_up : (d i : ℕ) → i + d < segments_in g → (row_of g i).count ≤ (row_of g (i + d)).count
  counts_up zero i h = let e : i + 0 ≡ i = omega arith in rw e (native.Mathlib.Nat.le_refl _)
  counts_up (suc d) i h =
      let e : i + suc d ≡ i + d + 1 = omega arith in
      rw e (omega (arith, counts_up d i (omega arith), (fg.grow (i + d) (omega arith)).counts))

  pub count_below : (i : ℕ) → i < segments_in g → (row_of g i).count ≤ total
  count_below i h =
      let e : i + (segments_in g - 1 - i) ≡ segments_in g - 1 = omega arith in
      let w : (row_of g i).count ≤ (row_of g (i + (segments_in g - 1 - i))).count = counts_up (segments_in g - 1 - i) i (omega arith) in
      omega (arith, (rw e at w), fg.last)

  pub next_positive : (i : ℕ) → i + 1 < segments_in g → 1 ≤ (row_of g (i + 1)).count
  next_positive i h = omega (arith, (fg.grow i h).counts)

  -- row i is in every list
  pub in-lists : (i : ℕ) → i < segments_in g → RowIn g i
  in-lists i h = record { count = h; time = rw fg.times_length h; rate = rw fg.rates_length h }

  module _ (fu : UnitFacts unit) where
    -- the segment of the count e
    module _ (e i : ℕ) (found : segment_of g.counts e ≡ some i) where
      pub count_row : i < segments_in g
      unfolding segment_of
      count_row = (last_found (λ i. leb (get_or g.counts i 0) e) _ i found).below

      row_begun : (row_of g i).count ≤ e
      unfolding segment_of
      row_begun = leb-true _ _ (last_found (λ i. leb (get_or g.counts i 0) e) _ i found).holds

      module _ (in-total : e ≤ total) where
        ends_after : e ≤ segment_end total g.counts i
        unfolding segment_of segment_end
        ends_after =
            by_test (ltb (i + 1) (segments_in g))
            (λ t. rw t (before (leb-false (row_of g (i + 1)).count e ((last_found (λ i. leb (get_or g.counts i 0) e) _ i found).after (i + 1) (omega arith) (ltb-true _ _ t)))))
            (λ f. rw f in-total)
          where
            before : e < (row_of g (i + 1)).count → e ≤ (row_of g (i + 1)).count
            before h = omega arith

        pub reached : le_z (line_at unit (row_of g i) e) latest_time ≡ true
        unfolding line_at
        reached =
            later_down (row_of g i).time _ _ _
            (up_grows ((row_of g i).rate * (e - (row_of g i).count)) ((row_of g i).rate * (segment_end total g.counts i - (row_of g i).count)) unit fu.low
            (mul-le-mul_left (row_of g i).rate (omega (arith, ends_after))))
            (fg.each i count_row).line

        pub line_to_time : ToTime unit (row_of g i) e
        unfolding line_at
        line_to_time =
            record {
              unit_low = fu.low;
              unit_high = omega (arith, fu.high);
              begun = row_begun;
              reached =
                  later_small (2 ^ 63) 4_000_000_000_000_000_000 (row_of g i).time _ (omega arith)
                  (time_small (row_of g i).time (fg.each i count_row).early (fg.each i count_row).late) reached;
            }

    -- a segment that has a next one, at the count of that one
    pub next_to_time : (i : ℕ) → i + 1 < segments_in g → ToTime unit (row_of g i) (row_of g (i + 1)).count
    unfolding line_at segment_end
    next_to_time i h =
        let row = fg.each i (omega arith) in
        record {
          unit_low = fu.low;
          unit_high = omega (arith, fu.high);
          begun = omega (arith, (fg.grow i h).counts);
          reached =
              later_small (2 ^ 63) 4_000_000_000_000_000_000 (row_of g i).time _ (omega arith)
              (time_small (row_of g i).time row.early row.late) (rw (lt-ltb (i + 1) (segments_in g) h) at row.line);
        }

    -- the segment at the time t
    module _ (t : ℤ) (i : ℕ) (found : segment_at g.times t ≡ some i) where
      pub time_row : i < segments_in g
      unfolding segment_at
      time_row = rw (← fg.times_length) (last_found (λ i. le_z (get_or g.times i (pos 0)) t) _ i found).below

      time_begun : le_z (row_of g i).time t ≡ true
      unfolding segment_at
      time_begun = (last_found (λ i. le_z (get_or g.times i (pos 0)) t) _ i found).holds

      pub line_to_ticks : ToTicks unit (row_of g i) t
      line_to_ticks =
          record {
            unit_low = fu.low;
            rate_low = (fg.each i time_row).rate_low;
            rate_high = omega (arith, (fg.each i time_row).rate_high);
            begun = time_begun;
          }

      -- so that their sum with the segment's count fits 64 bits
      pub ticks_small : mag t < 2 ^ 63 → le_z t latest_time ≡ true → ticks_since unit (row_of g i) t ≤ 8_000_000_000_000_000_000
      unfolding ticks_since
      ticks_small mt late =
          let row = fg.each i time_row in
          let s = (row_of g i).time in
          let d = elapsed s t in
          let q = round_down (d * unit) (row_of g i).rate in
          let less : q ≤ d = le_of_mul-le-mul_right (le_trans (down_below (d * unit) (row_of g i).rate) (mul-le-mul_left d row.rate_low)) (omega (arith, fu.low, row.rate_low)) in
          le_trans less (elapsed_small s t row.early time_begun late (time_small s row.early row.late) mt)
