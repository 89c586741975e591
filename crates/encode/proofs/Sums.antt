-- The running sum of lengths, and where a search for a partition ends.
use Prim.Native.Nat.{ℕ, ◌+◌, ◌-◌, ◌≤◌, ◌<◌}
use mathlib.Core.Path.{◌≡◌, sym, ◌∙◌}
use mathlib.Core.Bool.{Bool, true, false, ◌&&◌}
use mathlib.Core.List.{List}
use lib.Dec.{leb}
use lib.ListN.{length, get_or}
use native.Mathlib.Omega.{arith}
use mir.Syntax.{w64}
use mir.Val.{Fits}
use borrow.Author.Count.{below_more}
use borrow.Author.Tests.{leb-true, le-leb, lt-leb}
use Rattle.base.proofs.Tests.{and_first, and_second, and_out_second}
use Rattle.base.proofs.Scans.{first_is, first_none, sum_start, sum_next, sum_up}
use Rattle.rules.specs.Limits.{largest_total}
use Rattle.rules.specs.Partitions.{Partitions, partitions, length_of, lengths_before, total_of}
use Rattle.rules.specs.Facts.{PartitionsFacts}
use Rattle.rules.specs.Answer.{answer, refuse, unless}
use Rattle.rules.specs.Stamp.{holds, encoded_in, encode_named, encode_found, encode_first}
use Rattle.encode.specs.Listed.{Listed}

pub listed : (P : ℕ) (p : Partitions) → PartitionsFacts P p → Listed p
listed P p f = record { one_length = f.one_length; few = f.few; ordered = λ i h. omega (arith, (f.each i h).ordered); total = f.total }

-- a count from start to end
module _ (start end count : ℕ) (t : Bool) (w : t ≡ (leb start count && leb count end)) where
  pub from_start : t ≡ true → start ≤ count
  from_start y = leb-true _ _ (and_first _ _ (sym w ∙ y))

  to_end : t ≡ true → count ≤ end
  to_end y = leb-true count end (and_second (leb start count) _ (sym w ∙ y))

module _ (ss es : List ℕ) where
  abbrev p : Partitions
  p = partitions ss es

  pub before_start : 0 ≡ lengths_before p 0
  unfolding lengths_before
  before_start = sym (sum_start (length_of p))

  pub in-ends : Listed p → (n : ℕ) → n ≡ length ss → (i : ℕ) → i < n → i < length es
  in-ends f n en i h = omega (arith, f.one_length)

  -- partition i, wherever the code has it from
  module _ (i start end : ℕ) (s : start ≡ get_or ss i 0) (e : end ≡ get_or es i 0) where
    pub before_next : (b : ℕ) → b ≡ lengths_before p i → b + (end - start) ≡ lengths_before p (i + 1)
    unfolding lengths_before
    before_next b h = rw (sum_next (length_of p) i, h, s, e)

    module _ (f : Listed p) (n : ℕ) (en : n ≡ length ss) (inside : i < n) where
      pub ends_at_start : start ≤ end
      ends_at_start = rw (s, e) (f.ordered i (rw en at inside))

      below_total : lengths_before p i + (end - start) ≤ largest_total
      unfolding lengths_before total_of
      below_total = omega (arith, sum_next (length_of p) i, sum_up (length_of p) (i + 1) (length ss) (omega arith), f.total)

      pub before_fits : (b : ℕ) → b ≡ lengths_before p i → Fits w64 (b + (end - start))
      before_fits b h = record { fits = omega (arith, below_total) }

    module _ (count : ℕ) (t : Bool) (w : t ≡ (leb start count && leb count end)) where
      holds_test : holds p count i ≡ t
      unfolding holds
      holds_test = rw (w, s, e)

      pub encoded_fits : (b : ℕ) → Listed p → (n : ℕ) → n ≡ length ss → i < n → b ≡ lengths_before p i → t ≡ true → Fits w64 (b + (count - start))
      encoded_fits b f n en h g y = record { fits = omega (arith, below_total f n en h, to_end start end count t w y) }

  -- b is the sum of the lengths before i, and no partition before i holds the count
  pub record Passed (count i b : ℕ) : Type 0 where
    pub sum : b ≡ lengths_before p i
    pub none_holds : (j : ℕ) → j < i → holds p count j ≡ false

  module _ (count : ℕ) where
    pub passed_start : Passed count 0 0
    passed_start = record { sum = before_start; none_holds = λ j h. absurd (omega arith) }

    module _ (i b : ℕ) (w : Passed count i b) (start end : ℕ) (s : start ≡ get_or ss i 0) (e : end ≡ get_or es i 0) (t : Bool) (h : t ≡ (leb start count && leb count end)) where
      pub passed_next : t ≡ false → Passed count (i + 1) (b + (end - start))
      passed_next out = record { sum = before_next i start end s e b w.sum; none_holds = below_more _ _ w.none_holds (holds_test i start end s e count t h ∙ out) }

      pub passed_here : (n : ℕ) → n ≡ length ss → i < n → t ≡ true → answer (b + (count - start)) ≡ encode_first p count
      unfolding encode_first encode_found encoded_in
      passed_here n en inside y =
          rw (first_is (holds p count) (length ss) i (record { below = rw en at inside; holds = holds_test i start end s e count t h ∙ y; before = w.none_holds }), ← w.sum, s)

    pub passed_all : (i b : ℕ) → Passed count i b → (n : ℕ) → n ≡ length ss → n ≤ i → refuse 11 ≡ encode_first p count
    unfolding encode_first encode_found
    passed_all i b w n en h = rw (first_none (holds p count) (length ss) (λ j l. w.none_holds j (omega arith)))

  pub sum_of : (count i b : ℕ) → Passed count i b → b ≡ lengths_before p i
  sum_of count i b w = w.sum

  pub before_all : (i n b : ℕ) → b ≡ lengths_before p i → i ≤ n → n ≤ i → b ≡ lengths_before p n
  before_all i n b e h k = let same : i ≡ n = omega arith in rw same at e

  -- the row of a partition that is named
  module _ (number n : ℕ) (en : n ≡ length ss) (low : 1 ≤ number) (high : number ≤ n) where
    pub named_start : number - 1 < length ss
    named_start = omega arith

    pub named_before : number - 1 ≤ length ss
    named_before = omega arith

    pub named_end : Listed p → number - 1 < length es
    named_end f = omega (arith, f.one_length)

  -- the ways out for a partition that is named
  module _ (number count : ℕ) where
    pub zero_named : number < 1 → refuse 10 ≡ encode_named p number count
    unfolding encode_named unless
    zero_named h = rw (lt-leb 1 number h)

    pub past_named : (n : ℕ) → n ≡ length ss → n < number → refuse 10 ≡ encode_named p number count
    unfolding encode_named unless
    past_named n en h = rw (and_out_second (leb 1 number) (lt-leb number (length ss) (rw en at h)))

    module _ (low : 1 ≤ number) (n : ℕ) (en : n ≡ length ss) (high : number ≤ n) (start end : ℕ) (s : start ≡ get_or ss (number - 1) 0) (e : end ≡ get_or es (number - 1) 0) (t : Bool) (h : t ≡ (leb start count && leb count end)) where
      pub named_outside : t ≡ false → refuse 11 ≡ encode_named p number count
      unfolding encode_named unless
      named_outside out = rw (le-leb 1 number low, le-leb number (length ss) (rw en at high), holds_test (number - 1) start end s e count t h ∙ out)

      pub named_fits : (b : ℕ) → Listed p → b ≡ lengths_before p (number - 1) → t ≡ true → Fits w64 (b + (count - start))
      named_fits b f q y = encoded_fits (number - 1) start end s e count t h b f n en (omega arith) q y

      pub named_inside : (b : ℕ) → t ≡ true → b ≡ lengths_before p (number - 1) → answer (b + (count - start)) ≡ encode_named p number count
      unfolding encode_named unless encoded_in
      named_inside b y f = rw (le-leb 1 number low, le-leb number (length ss) (rw en at high), holds_test (number - 1) start end s e count t h ∙ y, f, s)
