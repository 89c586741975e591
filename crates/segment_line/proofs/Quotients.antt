-- The quotients of a segment's line fit 64 bits, and are those of its definition.
use Prim.Native.Nat.{ℕ, ◌+◌, ◌-◌, ◌*◌, ◌^◌, ◌≤◌, ◌<◌}
use mathlib.Core.Path.{◌≡◌, refl, ◌∙◌}
use lib.IntN.{ℤ, pos, negsuc}
use lib.Signed.{mag}
use mir.Syntax.{w64}
use mir.Val.{SFits, to_z, of_z}
use mir.Facts.{to_z-of_z}
use native.Mathlib.Nat.{mul-le-mul_left, le_trans, le_of_mul-le-mul_right}
use native.Mathlib.Omega.{arith}
use Rattle.base.specs.Rounding.{round_up, round_down}
use Rattle.base.specs.Signed.{later, elapsed, ordinal}
use Rattle.base.proofs.Rounding.{down_below}
use Rattle.base.proofs.Signed.{ordinal_later}
use Rattle.rules.specs.declared.Segment.{Segment}
use Rattle.rules.specs.Segments.{line_at}
use Rattle.rules.specs.Time.{ticks_since}
use Rattle.quotient.specs.Quotient.{fit}
use Rattle.quotient.proofs.Fit.{fits_is, large_is}
use Rattle.std.specs.Prelude.{Option, Some, None}
use Rattle.segment_line.specs.Line.{ToTime, ToTicks}

ordinal_small : (z : ℤ) → mag z < 2 ^ 63 → ordinal (2 ^ 63) z < 2 ^ 64
unfolding ordinal
ordinal_small (pos n) h = omega arith
ordinal_small (negsuc n) h = omega arith

module _ (unit : ℕ) (s : Segment) (e : ℕ) (w : ToTime unit s e) (fits-time : SFits w64 s.time) where
  abbrev Rise : ℕ
  Rise = round_up (s.rate * (e - s.count)) unit

  line_is : later s.time Rise ≡ line_at unit s e
  unfolding line_at
  line_is = refl

  rise_small : Rise < 2 ^ 64
  rise_small = less (rw (← line_is, ordinal_later (2 ^ 63) s.time Rise fits-time.sfits) at (ordinal_small (line_at unit s e) w.reached))
    where
      less : ordinal (2 ^ 63) s.time + Rise < 2 ^ 64 → Rise < 2 ^ 64
      less h = omega arith

  module _ (r : Option ℕ) (given : r ≡ fit unit Rise) where
    pub line_fits : (q : ℕ) → r ≡ Some q → mag (later (to_z w64 (of_z w64 s.time)) q) < 2 ^ 63
    line_fits q g = rw (to_z-of_z fits-time, fits_is unit Rise q r given g, line_is) w.reached

    pub line_end : (q : ℕ) (z : ℤ) → r ≡ Some q → SFits w64 z → z ≡ later (to_z w64 (of_z w64 s.time)) q → to_z w64 (of_z w64 z) ≡ line_at unit s e
    line_end q z g fz h = to_z-of_z fz ∙ h ∙ rw (to_z-of_z fits-time, fits_is unit Rise q r given g) line_is

    pub line_never : (a b : ℤ) → r ≡ None → a ≡ b
    line_never a b g = absurd (clash (large_is unit Rise r given g w.unit_low) rise_small)
      where
        clash : 2 ^ 64 ≤ Rise → Rise < 2 ^ 64 → ⊥
        clash h l = omega arith

module _ (unit : ℕ) (s : Segment) (t : ℤ) (w : ToTicks unit s t) (d : ℕ) (gone : d ≡ elapsed (to_z w64 (of_z w64 s.time)) (to_z w64 (of_z w64 t))) (fits-time : SFits w64 s.time) (fits-t : SFits w64 t) (r : Option ℕ) (given : r ≡ fit s.rate (round_down (d * unit) s.rate)) where
  pub ticks_are : (q : ℕ) → r ≡ Some q → q ≡ ticks_since unit s t
  unfolding ticks_since
  ticks_are q g = fits_is s.rate _ q r given g ∙ rw (gone, to_z-of_z fits-time, to_z-of_z fits-t)

  -- a quotient by a rate of at least the unit is at most the time gone by
  small : round_down (d * unit) s.rate ≤ d
  small =
      le_of_mul-le-mul_right (le_trans (down_below (d * unit) s.rate) (mul-le-mul_left d w.rate_low)) (omega (arith, w.unit_low, w.rate_low))

  pub ticks_never : d < 2 ^ 64 → (a b : ℕ) → r ≡ None → a ≡ b
  ticks_never hd a b g = absurd (clash (large_is s.rate _ r given g (omega (arith, w.unit_low, w.rate_low))) small hd)
    where
      clash : 2 ^ 64 ≤ round_down (d * unit) s.rate → round_down (d * unit) s.rate ≤ d → d < 2 ^ 64 → ⊥
      clash h l k = omega arith
