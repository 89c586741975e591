-- How many rows a table may have, for every number of rows: partitions from 1 to 9,999, segments from 1 to 10,000.
use Prim.Native.Nat.{ℕ, zero, suc, ◌+◌, ◌-◌, ◌*◌, ◌/◌, ◌≤◌, ◌<◌}
use mathlib.Core.Path.{◌≡◌, refl, sym, ap, ◌∙◌}
use mathlib.Core.Bool.{true, ◌&&◌}
use lib.Dec.{leb, ltb}
use lib.IntN.{pos}
use lib.Signed.{le_z}
use lib.ListN.{length, get_or}
use borrow.Author.Tests.{le-leb, leb-true, lt-ltb, ltb-true}
use native.Mathlib.Omega.{arith}
use native.Mathlib.Numerals.{add-one}
use Rattle.base.specs.Scans.{sum_below, product}
use Rattle.base.specs.Rounding.{round_up}
use Rattle.base.specs.Signed.{later}
use Rattle.base.proofs.Tests.{by_test, same_test, and_both, and_first, and_second}
use Rattle.base.proofs.Scans.{sum_same}
use Rattle.rules.specs.Limits.{most_partitions, most_segments, latest_time}
use Rattle.rules.specs.Layout.{product_of, msf_of, unit_of}
use Rattle.rules.specs.Partitions.{partitions_in, start_of, end_of, length_of, lengths_before, total_of, partitions_ok}
use Rattle.rules.specs.Segments.{segments_in, segments_ok, line_at, segment_end, row_of}
use Rattle.rules.specs.Facts.{PartitionFacts, PartitionsFacts, SegmentFacts, Grows, SegmentsFacts}
use Rattle.rules.specs.Examples.{layout_a}
use Rattle.rules.specs.Edges.{tabulate, many_partitions, many_segments}
use Rattle.rules.proofs.Accepted.{partitions_facts, partitions_accepted, segments_facts, segments_accepted}

pub tabulate_length : {A : Type 0} (f : ℕ → A) (n : ℕ) → length (tabulate f n) ≡ n
unfolding tabulate
tabulate_length f zero = refl
tabulate_length f (suc n) = ap suc (tabulate_length (λ i. f (i + 1)) n)

pub tabulate_at : {A : Type 0} (f : ℕ → A) (d : A) (n i : ℕ) → i < n → get_or (tabulate f n) i d ≡ f i
unfolding tabulate
tabulate_at f d zero i h = absurd (omega arith)
tabulate_at f d (suc n) zero h = refl
tabulate_at f d (suc n) (suc i) h = rw (tabulate_at (λ j. f (j + 1)) d n i (omega arith), add-one)

sum_ones : (n : ℕ) → sum_below (λ i. 1) n ≡ n
unfolding sum_below
sum_ones zero = refl
sum_ones (suc n) = rw (sum_ones n, add-one)

many_starts : (n i : ℕ) → i < n → start_of (many_partitions n) i ≡ 0
unfolding many_partitions
many_starts n i h = tabulate_at (λ i. 0) 0 n i h

many_ends : (n i : ℕ) → i < n → end_of (many_partitions n) i ≡ 1
unfolding many_partitions
many_ends n i h = tabulate_at (λ i. 1) 0 n i h

many_in : (n : ℕ) → partitions_in (many_partitions n) ≡ n
unfolding many_partitions
many_in n = tabulate_length (λ i. 0) n

ends_of : (n : ℕ) → length (many_partitions n).ends ≡ n
unfolding many_partitions
ends_of n = tabulate_length (λ i. 1) n

many_total : (n : ℕ) → total_of (many_partitions n) ≡ n
unfolding total_of lengths_before
many_total n =
    rw (many_in n, sum_same (length_of (many_partitions n)) (λ i. 1) n (λ i h. rw (many_starts n i h, many_ends n i h)))
    (sum_ones n)

product_A : product_of layout_a ≡ 1_000
unfolding product_of layout_a product
product_A = refl

pub many_partitions_lem : (n : ℕ) → partitions_ok (product_of layout_a) (many_partitions n) ≡ (leb 1 n && leb n 9_999)
many_partitions_lem n = same_test _ _ (λ h. few (partitions_facts _ _ h)) (λ h. partitions_accepted _ _ (fits (leb-true 1 n (and_first (leb 1 n) _ h)) (leb-true n most_partitions (and_second (leb 1 n) _ h))))
  where
    few : PartitionsFacts (product_of layout_a) (many_partitions n) → (leb 1 n && leb n most_partitions) ≡ true
    few f = and_both (le-leb _ _ (rw (many_in n) at f.some)) (le-leb _ _ (rw (many_in n) at f.few))

    fits : 1 ≤ n → n ≤ most_partitions → PartitionsFacts (product_of layout_a) (many_partitions n)
    fits low high =
        record {
          one_length = ends_length ∙ sym (many_in n);
          some = rw (many_in n) low;
          few = rw (many_in n) high;
          each = λ i b. row i (rw (many_in n) at b);
          total = rw (many_total n) (omega arith);
        }
      where
        ends_length : length (many_partitions n).ends ≡ n
        ends_length = ends_of n

        row : (i : ℕ) → i < n → PartitionFacts (product_of layout_a) (many_partitions n) i
        row i b =
            record {
              ordered = rw (many_starts n i b, many_ends n i b) (omega arith);
              in-range = rw (many_ends n i b, product_A) (omega arith);
            }

unit_A : unit_of layout_a ≡ 10_000
unfolding unit_of msf_of layout_a product
unit_A = refl

-- a total above every count of the rows, so that the number of rows alone decides
abbrev pub wide_total : ℕ
wide_total = 20_000

module _ (n : ℕ) where
  many_count : (i : ℕ) → i < n → (row_of (many_segments n) i).count ≡ i
  unfolding many_segments
  many_count i h = tabulate_at (λ j. j) 0 n i h

  many_time : (i : ℕ) → i < n → (row_of (many_segments n) i).time ≡ pos (1_000_000 * i)
  unfolding many_segments
  many_time i h = tabulate_at (λ j. pos (1_000_000 * j)) (pos 0) n i h

  many_rate : (i : ℕ) → i < n → (row_of (many_segments n) i).rate ≡ 10_000
  unfolding many_segments
  many_rate i h = tabulate_at (λ j. 10_000) 0 n i h

  many_rows : segments_in (many_segments n) ≡ n
  unfolding many_segments
  many_rows = tabulate_length (λ j. j) n

  many_times : length (many_segments n).times ≡ n
  unfolding many_segments
  many_times = tabulate_length (λ j. pos (1_000_000 * j)) n

  many_rates : length (many_segments n).rates ≡ n
  unfolding many_segments
  many_rates = tabulate_length (λ j. 10_000) n

  -- every segment ends by the total
  many_end : (i : ℕ) → i < n → n ≤ most_segments → segment_end wide_total (many_segments n).counts i ≤ wide_total
  unfolding segment_end
  many_end i h m =
      by_test (ltb (i + 1) (segments_in (many_segments n)))
      (λ t. rw (t, many_count (i + 1) (next t)) (low (next t)))
      (λ f. rw f (omega arith))
    where
      next : ltb (i + 1) (segments_in (many_segments n)) ≡ true → i + 1 < n
      next t = rw many_rows at (ltb-true (i + 1) (segments_in (many_segments n)) t)

      low : i + 1 < n → i + 1 ≤ wide_total
      low b = omega arith

  many_line : (i e : ℕ) → i < n → n ≤ most_segments → e ≤ wide_total → le_z (line_at (unit_of layout_a) (row_of (many_segments n) i) e) latest_time ≡ true
  unfolding line_at later round_up
  many_line i e h m b =
      rw (many_time i h, many_rate i h, many_count i h, unit_A)
      (le-leb (1_000_000 * i + (10_000 * (e - i) + 9_999) / 10_000) 4_000_000_000_000_000_000 (omega arith))

  pub many_segments_lem : segments_ok (unit_of layout_a) wide_total (many_segments n) ≡ (leb 1 n && leb n 10_000)
  many_segments_lem =
      same_test _ _ (λ h. few (segments_facts _ _ _ h))
      (λ h. segments_accepted _ _ _ (fits (leb-true 1 n (and_first (leb 1 n) _ h)) (leb-true n most_segments (and_second (leb 1 n) _ h))))
    where
      few : SegmentsFacts (unit_of layout_a) wide_total (many_segments n) → (leb 1 n && leb n most_segments) ≡ true
      few f = and_both (le-leb _ _ (rw many_rows at f.some)) (le-leb _ _ (rw many_rows at f.few))

      row : n ≤ most_segments → (i : ℕ) → i < n → SegmentFacts (unit_of layout_a) wide_total (many_segments n) i
      row m i b =
          record {
            early = rw (many_time i b);
            late = rw (many_time i b) (le-leb (1_000_000 * i) 4_000_000_000_000_000_000 (omega arith));
            rate_low = rw (unit_A, many_rate i b) (omega arith);
            rate_high = rw (many_rate i b) (omega arith);
            line = many_line i _ b m (many_end i b m);
          }

      step : (i : ℕ) → i + 1 < n → Grows (many_segments n) i
      step i b =
          record {
            counts = rw (many_count i (omega arith), many_count (i + 1) b) (omega arith);
            times = rw (many_time i (omega arith), many_time (i + 1) b) (lt-ltb (1_000_000 * i) (1_000_000 * (i + 1)) (omega arith));
          }

      final : 1 ≤ n → n ≤ most_segments → (row_of (many_segments n) (segments_in (many_segments n) - 1)).count ≤ wide_total
      final low m = rw (many_rows, many_count (n - 1) (omega arith)) (omega arith)

      fits : 1 ≤ n → n ≤ most_segments → SegmentsFacts (unit_of layout_a) wide_total (many_segments n)
      fits low m =
          record {
            times_length = many_times ∙ sym many_rows;
            rates_length = many_rates ∙ sym many_rows;
            some = rw many_rows low;
            few = rw many_rows m;
            last = final low m;
            each = λ i b. row m i (rw many_rows at b);
            grow = λ i b. step i (rw many_rows at b);
          }
