-- What measuring a layout answers.
use Rattle.rules.specs.declared.refusal.Refusal.{Refusal}
use Rattle.std.specs.Prelude.{ℕ, ◌*◌, ◌≤◌, ◌≡◌, Bool, [], ◌∷◌, leb, Result, Ok}
use Rattle.base.specs.Scans.{all_of}
use Rattle.rules.specs.declared.Layout.{Layout}
use Rattle.rules.specs.Answer.{Answer, answer, unless}
use Rattle.rules.specs.Layout.{layout_ok, product_of, unit_of}
use Rattle.rules.specs.Limits.{most_fields, last_delimiter, largest_p, largest_msf, picoseconds, largest_unit}
use Rattle.layouts.specs.declared.Measured.{Measured}

abbrev pub measured : Layout → Measured
measured l = record { product = product_of l; unit = unit_of l }

-- 1, and the two numbers
unfoldable pub measure_of : Layout → Answer Measured
measure_of l = unless 1 (layout_ok l) (answer (measured l))

-- n and the delimiter's code
unfoldable pub head_ok : ℕ → ℕ → Bool
head_ok n d = all_of (leb 1 n ∷ leb n most_fields ∷ leb 1 d ∷ leb d last_delimiter ∷ [])

-- the same by the first modulus and the product of the others; a product of 0 has a modulus of 0
unfoldable pub measured_by : ℕ → ℕ → Answer Measured
measured_by first msf =
    unless 1 (all_of (leb msf largest_msf ∷ leb (first * msf) largest_p ∷ leb 1 (first * msf) ∷ [])) (answer (record { product = first * msf; unit = picoseconds * msf }))

-- a unit that may divide
pub record UnitFacts (unit : ℕ) : Type 0 where
  pub low : 1 ≤ unit
  pub high : unit ≤ largest_unit

-- what a measure says of its unit, whatever the layout was; a refused one has none
pub record InLimits (r : Result Measured Refusal) : Type 0 where
  pub unit : (m : Measured) → r ≡ Ok m → UnitFacts m.unit
