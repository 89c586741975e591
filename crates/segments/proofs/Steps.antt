-- The step-back test, row by row.
use Prim.Native.Nat.{ℕ, ◌+◌, ◌-◌, ◌≤◌, ◌<◌}
use mathlib.Core.Path.{◌≡◌, sym, ◌∙◌}
use mathlib.Core.Bool.{Bool, true, false}
use mathlib.Core.List.{List}
use lib.IntN.{ℤ}
use lib.ListN.{length}
use lib.Signed.{le_z}
use native.Mathlib.Omega.{arith}
use borrow.Author.Count.{below_more}
use borrow.Author.Tests.{lt-ltb, le-ltb}
use Rattle.base.specs.Scans.{some_below}
use Rattle.base.proofs.Signed.{before_at_most}
use Rattle.base.proofs.Scans.{some_start, some_next, some_at, some_none, some_from_none}
use Rattle.rules.specs.declared.Segment.{Segment}
use Rattle.rules.specs.Segments.{segments, row_of, overtakes, steps_back_at, steps_back}
use Rattle.segments.specs.Rows.{RowIn, Rising}

-- no line before segment i is later than the next segment's time, and row is segment i
pub record NoneTo (unit : ℕ) (cs : List ℕ) (ts : List ℤ) (rs : List ℕ) (i : ℕ) (row : Segment) : Type 0 where
  pub within : i ≤ length cs - 1
  pub none : some_below (steps_back_at unit (segments cs ts rs)) i ≡ false
  pub here : row ≡ row_of (segments cs ts rs) i

module _ (unit : ℕ) (cs : List ℕ) (ts : List ℤ) (rs : List ℕ) (g : Rising (segments cs ts rs)) where
  pub row_in : (i : ℕ) → i ≤ length cs - 1 → RowIn (segments cs ts rs) i
  row_in i h =
      record {
        count = omega (arith, g.some);
        time = rw g.times_length (omega (arith, g.some));
        rate = rw g.rates_length (omega (arith, g.some));
      }

  pub none_start : (row : Segment) → row ≡ row_of (segments cs ts rs) 0 → NoneTo unit cs ts rs 0 row
  none_start row e = record { within = omega arith; none = some_start (steps_back_at unit (segments cs ts rs)); here = e }

  module _ (i : ℕ) (row : Segment) (w : NoneTo unit cs ts rs i row) (more : i < length cs - 1) (next : Segment) (there : next ≡ row_of (segments cs ts rs) (i + 1)) where
    inside : i + 1 < length cs
    inside = omega arith

    pub times_up : le_z row.time next.time ≡ true
    times_up = rw (w.here, there) (before_at_most (row_of (segments cs ts rs) i).time (row_of (segments cs ts rs) (i + 1)).time (g.grow i inside).times)

    module _ {b : Bool} (test : b ≡ overtakes unit row next) where
      step_test : b ≡ steps_back_at unit (segments cs ts rs) i
      unfolding steps_back_at
      step_test = test ∙ rw (w.here, there, lt-ltb _ _ inside)

      pub none_turn : b ≡ false → NoneTo unit cs ts rs (i + 1) next
      none_turn f =
          record {
            within = omega arith;
            none = some_next (steps_back_at unit (segments cs ts rs)) i w.none (sym step_test ∙ f);
            here = there;
          }

      pub step_found : b ≡ true → true ≡ steps_back unit (segments cs ts rs)
      unfolding steps_back
      step_found t = sym (some_at (steps_back_at unit (segments cs ts rs)) (length cs) i (omega arith) (sym step_test ∙ t))

  last_test : (i : ℕ) → length cs ≤ i + 1 → steps_back_at unit (segments cs ts rs) i ≡ false
  unfolding steps_back_at
  last_test i h = rw (le-ltb _ _ h)

  pub none_found : (i : ℕ) (row : Segment) → NoneTo unit cs ts rs i row → length cs - 1 ≤ i → false ≡ steps_back unit (segments cs ts rs)
  unfolding steps_back
  none_found i row w down =
      sym (some_from_none (steps_back_at unit (segments cs ts rs)) (length cs) (λ j h. below_more (λ k. steps_back_at unit (segments cs ts rs) k ≡ false) i
      (λ k b. some_none (steps_back_at unit (segments cs ts rs)) i k w.none b)
      (last_test i (omega arith)) j (omega (arith, g.some, w.within))))
