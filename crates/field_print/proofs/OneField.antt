-- One field: its facts, and its width.
use Prim.Native.Nat.{ℕ, zero, suc, ◌+◌, ◌-◌, ◌^◌, ◌≤◌, ◌<◌}
use mathlib.Core.Path.{◌≡◌}
use mathlib.Core.List.{List, [], ◌∷◌}
use lib.ListN.{length, get_or}
use native.Mathlib.Omega.{arith}
use Rattle.rules.specs.Limits.{largest_p, largest_offset}
use Rattle.rules.specs.Print.{digit_count, field_width}
use Rattle.roundtrip.specs.Fields.{FieldsFacts, AllFields}
use Rattle.roundtrip.proofs.Split.{first_facts}

-- what holds of one field
pub record FieldFacts (m o : ℕ) : Type 0 where
  pub modulus : 1 ≤ m
  pub small : m ≤ largest_p
  pub offset : o ≤ largest_offset

pub field_facts : (ms os : List ℕ) → FieldsFacts ms os → (i : ℕ) → i < length ms → FieldFacts (get_or ms i 0) (get_or os i 0)
field_facts [] os f i l = absurd (omega arith)
field_facts (m ∷ ms) [] f i l = absurd (omega (arith, f.one_length))
field_facts (m ∷ ms) (o ∷ os) f zero l = let g = first_facts m ms o os f in record { modulus = g.modulus; small = g.modulus_fits; offset = g.offset }
field_facts (m ∷ ms) (o ∷ os) f (suc i) l = field_facts ms os (first_facts m ms o os f).later i (omega arith)

module _ (ms os : List ℕ) (a : AllFields ms os) (i : ℕ) (l : i < length ms) where
  pub offset_small : get_or os i 0 ≤ largest_offset
  offset_small = (field_facts ms os a.facts i l).offset

  -- the sum of a modulus and an offset fits a word, and is not 0
  pub sum_fits : (x : ℕ) → x ≤ largest_offset → get_or ms i 0 + x < 2 ^ 64
  sum_fits x h = let g = field_facts ms os a.facts i l in omega arith

  pub sum_some : (x : ℕ) → 1 ≤ get_or ms i 0 + x
  sum_some x = let g = field_facts ms os a.facts i l in omega arith

pub field_width_is : (m o digits : ℕ) → digits ≡ digit_count (m + o - 1) → digits ≡ field_width m o
unfolding field_width
field_width_is m o digits e = e
