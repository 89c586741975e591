-- "Each equals the inner call on the same numbers": lists that a host writes as bytes are read as the lists, times and a layout too,
-- and a time that is written is read as itself.
use Rattle.std.specs.Prelude.{ℕ, ◌^◌, ◌≤◌, ◌<◌, ◌≡◌, true, List, [], ◌∷◌, ◌++◌, map, ltb, ℤ, length, take}
use Rattle.std.specs.Int.Signed.{mag}
use Rattle.base.specs.Scans.{all}
use Rattle.rules.specs.Limits.{most_fields, last_delimiter}
use Rattle.rules.specs.Layout.{moduli_of, offsets_of}
use Rattle.c_rules.specs.Numbers.{bytes_of, numbers, unsigned_of, times, time_bytes}
use Rattle.rules.specs.Partitions.{partitions}
use Rattle.rules.specs.Segments.{segments}
use Rattle.c_rules.specs.Tables.{layout_from, partitions_from, segments_from}

-- a list as bytes, eight for each number, low byte first
unfoldable pub as_bytes : List ℕ → List ℕ
as_bytes [] = []
as_bytes (x ∷ xs) = bytes_of 8 x ++ as_bytes xs

-- every number has 64 bits
abbrev pub Words : List ℕ → Type 0
Words xs = all (λ x. ltb x (2 ^ 64)) xs ≡ true

-- a time is an i64, and every one is
abbrev pub IsTime : ℤ → Type 0
IsTime t = mag t < 2 ^ 63

unfoldable pub AllTimes : List ℤ → Type 0
AllTimes [] = Unit {0}
AllTimes (t ∷ ts) = IsTime t × AllTimes ts

-- the layout of n fields that two lists make
pub record LayoutOf (n d : ℕ) (xs ys : List ℕ) : Type 0 where
  pub fields : (layout_from n d (as_bytes xs) (as_bytes ys)).n ≡ n
  pub moduli : moduli_of (layout_from n d (as_bytes xs) (as_bytes ys)) ≡ take n xs
  pub offsets : offsets_of (layout_from n d (as_bytes xs) (as_bytes ys)) ≡ take n ys
  pub delimiter : (layout_from n d (as_bytes xs) (as_bytes ys)).delimiter ≡ d

pub record SameNumbers : Type 0 where
  pub list : (xs : List ℕ) → Words xs → numbers (as_bytes xs) ≡ xs
  pub time_list : (ts : List ℤ) → AllTimes ts → times (as_bytes (map unsigned_of ts)) ≡ ts
  pub time : (t : ℤ) → IsTime t → times (time_bytes t) ≡ t ∷ []
  -- lists that are longer than n too
  pub layout : (n d : ℕ) (xs ys : List ℕ) → Words xs → Words ys → n ≤ most_fields → d ≤ last_delimiter → n ≤ length xs → n ≤ length ys → LayoutOf n d xs ys
  pub partition_lists : (xs ys : List ℕ) → Words xs → Words ys → partitions_from (as_bytes xs) (as_bytes ys) ≡ partitions xs ys
  pub segment_lists : (cs : List ℕ) (ts : List ℤ) (rs : List ℕ) → Words cs → AllTimes ts → Words rs → segments_from (as_bytes cs) (as_bytes (map unsigned_of ts)) (as_bytes rs) ≡ segments cs ts rs
