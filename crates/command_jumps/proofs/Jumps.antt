-- Gaps and steps back, as the code tells and counts them.
use Prim.Native.Nat.{ℕ, zero, suc, ◌+◌, ◌≤◌, ◌<◌}
use mathlib.Core.Path.{◌≡◌, sym, ◌∙◌}
use mathlib.Core.Bool.{Bool, true, false, cond}
use mathlib.Core.List.{List}
use lib.IntN.{ℤ, pos}
use lib.ListN.{length, get_or}
use lib.Signed.{lt_z}
use mir.Syntax.{w64}
use mir.Val.{Fits, SFits, to_z, of_z}
use mir.Facts.{to_z-of_z}
use borrow.Author.Tests.{lt-ltb, le-ltb}
use native.Mathlib.Omega.{arith}
use Rattle.base.specs.Scans.{sum_below}
use Rattle.base.proofs.Scans.{sum_start, sum_next}
use Rattle.rules.specs.declared.Segment.{Segment}
use Rattle.rules.specs.Segments.{Segments, segments, row_of, line_at, overtakes, steps_back_at}
use Rattle.rules.specs.Facts.{SegmentsFacts}
use Rattle.tables.specs.Accept.{BasisFacts}
use Rattle.segments.specs.Rows.{RowIn}
use Rattle.segment_line.specs.Line.{ToTime}
use Rattle.conversion.proofs.Rows.{in-lists, next_to_time}
use Rattle.command_rules.specs.Describe.{count_below, reached, is_gap}
use Rattle.command_jumps.specs.Reached.{NextReached, AllReached}

-- accepted segments
pub all_reached : (unit total : ℕ) (g : Segments) → BasisFacts unit total → SegmentsFacts unit total g → AllReached unit g
all_reached unit total g b f = record {
  few = f.few;
  each = in-lists unit total g f;
  nexts = λ i h. record { here = in-lists unit total g f i (omega arith); next = in-lists unit total g f (i + 1) h; line = next_to_time unit total g f b.divides i h };
}

module _ (unit : ℕ) (cs : List ℕ) (ts : List ℤ) (rs : List ℕ) (i : ℕ) where
  abbrev g : Segments
  g = segments cs ts rs

  module _ (a : AllReached unit g) where
    pub next_reached : i + 1 < length cs → NextReached unit g i
    next_reached h = a.nexts i h

    pub here_in : i < length cs → RowIn g i
    here_in h = a.each i h

    pub next_time_in : i + 1 < length cs → i + 1 < length ts
    next_time_in h = (a.nexts i h).next.time

  -- the row, as the code has it, and its line
  module _ (row : Segment) (there : row ≡ row_of g i) where
    pub row_to_next : NextReached unit g i → ToTime unit row (get_or cs (i + 1) 0)
    row_to_next n = rw there n.line

    pub row_reached : (z : ℤ) → z ≡ line_at unit row (get_or cs (i + 1) 0) → z ≡ reached unit g i
    unfolding reached
    row_reached z e = e ∙ rw there

  -- the line reaches z, as the code has it, and the next row's time is t
  module _ (z t : ℤ) (e : z ≡ reached unit g i) (f : SFits w64 z) (k : SFits w64 t) (q : t ≡ get_or ts (i + 1) (pos 0)) (h : i + 1 < length cs) where
    pub gap_told : lt_z (to_z w64 (of_z w64 z)) (to_z w64 (of_z w64 t)) ≡ is_gap unit g i
    unfolding is_gap
    gap_told = rw (to_z-of_z f, to_z-of_z k, lt-ltb _ _ h, e, q)

    pub back_told : lt_z (to_z w64 (of_z w64 t)) (to_z w64 (of_z w64 z)) ≡ steps_back_at unit g i
    unfolding steps_back_at overtakes reached
    back_told = rw (to_z-of_z f, to_z-of_z k, lt-ltb _ _ h, e, q)

  module _ (h : length cs ≤ i + 1) where
    pub no_gap : false ≡ is_gap unit g i
    unfolding is_gap
    no_gap = rw (le-ltb _ _ h)

    pub no_back : false ≡ steps_back_at unit g i
    unfolding steps_back_at
    no_back = rw (le-ltb _ _ h)

-- counting
module _ (p : ℕ → Bool) where
  pub count_begins : 0 ≡ count_below p 0
  unfolding count_below
  count_begins = sym (sum_start (λ i. cond (p i) 1 0))

  pub count_next : (i found one : ℕ) (b : Bool) → found ≡ count_below p i → b ≡ p i → one ≡ cond b 1 0 → found + one ≡ count_below p (i + 1)
  unfolding count_below
  count_next i found one b e f g = rw (sum_next (λ i. cond (p i) 1 0) i, e, g, f)

  one_most : (b : Bool) → cond b 1 0 ≤ 1
  one_most true = omega arith
  one_most false = omega arith

  count_most : (n : ℕ) → count_below p n ≤ n
  unfolding count_below sum_below
  count_most zero = omega arith
  count_most (suc n) = omega (arith, count_most n, one_most (p n))

  pub count_fits : (i n found one : ℕ) (b : Bool) → found ≡ count_below p i → one ≡ cond b 1 0 → i < n → n ≤ 10_000 → Fits w64 (found + one)
  count_fits i n found one b e f h k = record { fits = omega (arith, count_most i, one_most b) }

  pub count_done : (i n found : ℕ) → found ≡ count_below p i → i ≤ n → n ≤ i → found ≡ count_below p n
  count_done i n found e h k = let q : i ≡ n = omega arith in rw q at e
