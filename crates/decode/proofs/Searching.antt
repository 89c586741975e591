-- The loop that finds the partition of an encoded count by running sums.
use Prim.Native.Nat.{ℕ, ◌+◌, ◌-◌, ◌≤◌, ◌<◌}
use mathlib.Core.Path.{◌≡◌, refl, sym}
use mathlib.Core.List.{List}
use lib.Dec.{ltb}
use lib.ListN.{length, get_or}
use mir.Syntax.{w64}
use mir.Val.{Fits}
use native.Mathlib.Omega.{arith}
use borrow.Author.Tests.{ltb-true, ltb-false}
use Rattle.base.proofs.Tests.{by_test}
use Rattle.rules.specs.Partitions.{Partitions, partitions, partitions_in, lengths_before, total_of}
use Rattle.rules.specs.Print.{partition_of, decoded_in}
use Rattle.roundtrip.proofs.Encoded.{before_up, before_total, partition_is, partition_total}
use Rattle.encode.proofs.Sums.{before_start, before_next, before_fits, ends_at_start, in-ends}
use Rattle.decode.specs.Decodable.{Decodable}

-- the search is at partition i: the partitions before it are passed
pub record Searching (p : Partitions) (e i before : ℕ) : Type 0 where
  pub below : i < partitions_in p
  pub sum : before ≡ lengths_before p i
  pub passed : before ≤ e

module _ (ss es : List ℕ) (e : ℕ) (f : Decodable (partitions ss es) e) where
  abbrev p : Partitions
  p = partitions ss es

  pub search_start : Searching p e 0 0
  search_start = record { below = f.some; sum = before_start ss es; passed = omega arith }

  module _ (i before : ℕ) (at : Searching p e i before) where
    pub start_there : i < length ss
    start_there = at.below

    pub end_there : i < length es
    end_there = in-ends ss es f.listed (length ss) refl i at.below

    pub last_sum : before ≤ e
    last_sum = at.passed

    pub next_fits : (n : ℕ) → n ≡ length ss → Fits w64 n → Fits w64 (i + 1)
    next_fits n en fn = record { fits = omega (arith, at.below, fn.fits) }

  -- the code has n partitions and this one, wherever they lie
  module _ (i before : ℕ) (at : Searching p e i before) (start end : ℕ) (s : start ≡ get_or ss i 0) (t : end ≡ get_or es i 0) where
    next_sum : before + (end - start) ≡ lengths_before p (i + 1)
    next_sum = before_next ss es i start end s t before at.sum

    pub in_order : start ≤ end
    in_order = ends_at_start ss es i start end s t f.listed (length ss) refl at.below

    pub search_fits : Fits w64 (before + (end - start))
    search_fits = before_fits ss es i start end s t f.listed (length ss) refl at.below before at.sum

    pub search_next : (n : ℕ) → n ≡ length ss → i + 1 < n → before + (end - start) ≤ e → Searching p e (i + 1) (before + (end - start))
    search_next n en h l = record { below = rw en at h; sum = next_sum; passed = l }

    pub here_partition : e < before + (end - start) → i ≡ partition_of p e
    here_partition h = sym (partition_is p e i at.below (rw at.sum at at.passed) (rw next_sum at h))

    -- the count lies in the partition, its end included
    to_end_fits : e ≤ before + (end - start) → Fits w64 (start + (e - before))
    to_end_fits h = record { fits = omega (arith, in_order, t, f.small i at.below) }

    pub here_fits : e < before + (end - start) → Fits w64 (start + (e - before))
    here_fits h = to_end_fits (omega arith)

  module _ (i before : ℕ) (at : Searching p e i before) where
    pub decoded_count : (start : ℕ) → start ≡ get_or ss i 0 → i ≡ partition_of p e → start + (e - before) ≡ decoded_in p e (partition_of p e)
    unfolding decoded_in
    decoded_count start s h = rw (← h, at.sum, s)

    module _ (n : ℕ) (en : n ≡ length ss) (last : n ≤ i + 1) where
      -- at the last partition e is below the total, or is the total
      pub last_partition : i ≡ partition_of p e
      last_partition =
          by_test (ltb e (before + (get_or es i 0 - get_or ss i 0)))
          (λ t. here_partition i before at (get_or ss i 0) (get_or es i 0) refl refl (ltb-true e _ t))
          (λ g. let whole : e ≡ total_of p = omega (arith, ltb-false e _ g, next_sum i before at (get_or ss i 0) (get_or es i 0) refl refl, f.held, before_total p, before_up p (length ss) (i + 1) (rw en at last)) in
          rw (whole, partition_total) (omega (arith, at.below)))

      pub last_fits : (start : ℕ) → start ≡ get_or ss i 0 → Fits w64 (start + (e - before))
      last_fits start s = to_end_fits i before at start (get_or es i 0) s refl (omega (arith, next_sum i before at start (get_or es i 0) s refl, f.held, before_up p (length ss) (i + 1) (rw en at last), before_total p))
