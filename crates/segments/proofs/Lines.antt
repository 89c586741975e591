-- A rounded line against a time, as a comparison of two products.
use Prim.Native.Nat.{ℕ, ◌-◌, ◌*◌, ◌≤◌, zero-le}
use mathlib.Core.Path.{◌≡◌, sym, ◌∙◌}
use mathlib.Core.Bool.{Bool, true, not}
use lib.IntN.{ℤ}
use lib.Dec.{leb}
use lib.Signed.{le_z}
use mir.Syntax.{w64}
use mir.Val.{SFits, to_z, of_z}
use mir.Facts.{to_z-of_z}
use native.Mathlib.Nat.{mul-zero}
use native.Mathlib.Omega.{arith}
use borrow.Author.Tests.{le-leb}
use Rattle.base.specs.Rounding.{round_up}
use Rattle.base.specs.Signed.{elapsed}
use Rattle.base.proofs.Rounding.{up_leb}
use Rattle.base.proofs.Signed.{before_not_after, later_within}
use Rattle.base.proofs.Tests.{all_of_head, all_of_tail}
use Rattle.rules.specs.Limits.{latest_time}
use Rattle.rules.specs.declared.Segment.{Segment}
use Rattle.rules.specs.Segments.{row_ok, line_at, line_ok, overtakes}

-- a time within its limits is at most the latest
late : (unit : ℕ) (s : Segment) → row_ok unit s ≡ true → le_z s.time latest_time ≡ true
unfolding row_ok
late unit s h = all_of_head _ _ (all_of_tail _ _ h)

module _ (unit : ℕ) (s : Segment) (fits : SFits w64 s.time) (h : row_ok unit s ≡ true) where
  pub not_late : le_z (to_z w64 (of_z w64 s.time)) latest_time ≡ true
  not_late = rw (to_z-of_z fits) (late unit s h)

module _ (unit : ℕ) (s : Segment) (positive : 1 ≤ unit) where
  -- the line is at most z at the count e
  line_within : (z : ℤ) (e : ℕ) → le_z s.time z ≡ true → le_z (line_at unit s e) z ≡ leb (s.rate * (e - s.count)) (elapsed s.time z * unit)
  unfolding line_at
  line_within z e h =
      later_within s.time z (round_up (s.rate * (e - s.count)) unit) h ∙ up_leb (s.rate * (e - s.count)) unit (elapsed s.time z) positive

  -- a line that has no way to go
  pub flat_line : (e : ℕ) → row_ok unit s ≡ true → e ≤ s.count → true ≡ line_ok unit s e
  unfolding line_ok
  flat_line e h l =
      let none : e - s.count ≡ 0 = omega arith in
      sym (line_within latest_time e (late unit s h) ∙ rw (none, mul-zero) (le-leb 0 (elapsed s.time latest_time * unit) zero-le))

  module _ (fits : SFits w64 s.time) (r : Bool) (room : ℕ) (e : ℕ) (test : r ≡ leb (s.rate * (e - s.count)) (room * unit)) where
    pub line_test : row_ok unit s ≡ true → room ≡ elapsed (to_z w64 (of_z w64 s.time)) latest_time → r ≡ line_ok unit s e
    unfolding line_ok
    line_test h q = test ∙ rw (q, to_z-of_z fits) (sym (line_within latest_time e (late unit s h)))

  module _ (next : Segment) (fits : SFits w64 s.time) (fits_next : SFits w64 next.time) (r : Bool) (far gap : ℕ) (length : far ≡ next.count - s.count) (test : r ≡ leb (s.rate * far) (gap * unit)) where
    pub overtakes_test : le_z s.time next.time ≡ true → gap ≡ elapsed (to_z w64 (of_z w64 s.time)) (to_z w64 (of_z w64 next.time)) → not r ≡ overtakes unit s next
    unfolding overtakes
    overtakes_test h q =
        rw (test, length, q, to_z-of_z fits, to_z-of_z fits_next, before_not_after next.time (line_at unit s next.count), line_within next.time next.count h)
