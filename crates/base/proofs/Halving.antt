-- Halving: the last number below n of which p holds, where p holds up to some number and of none from there on.
use Prim.Native.Nat.{ℕ, zero, suc, ◌+◌, ◌-◌, ◌≤◌, ◌<◌}
use mathlib.Core.Path.{◌≡◌, refl, sym}
use mathlib.Core.Bool.{Bool, true, false}
use mathlib.Core.Option.{none, some}
use native.Mathlib.Omega.{arith}
use Rattle.base.specs.Scans.{last_below, greatest_below}
use Rattle.base.proofs.Tests.{by_test, not_both}
use Rattle.base.proofs.Scans.{last_none, last_is}

-- what halving keeps: p holds below low, and of none from high on
pub record Between (p : ℕ → Bool) (n low high : ℕ) : Type 0 where
  pub order : low ≤ high
  pub inside : high ≤ n
  pub holds : (i : ℕ) → i < low → p i ≡ true
  pub fails_from : (i : ℕ) → high ≤ i → i < n → p i ≡ false

module _ (p : ℕ → Bool) (n : ℕ) where
  pub whole : Between p n 0 n
  whole = record { order = omega arith; inside = omega arith; holds = λ i l. absurd (omega arith); fails_from = λ i h l. absurd (omega arith) }

  pub ended : (low high : ℕ) → Between p n low high → high ≤ low → greatest_below low ≡ last_below p n
  unfolding greatest_below
  ended zero high w h = sym (last_none p n (λ i l. w.fails_from i (omega arith) l))
  ended (suc i) high w h =
      sym
      (last_is p n i
      (record {
        below = omega (arith, w.order, w.inside);
        holds = w.holds i (omega arith);
        after = λ j l b. w.fails_from j (omega arith) b;
      }))

  -- once p fails, it fails from there on
  module _ (falls : (i : ℕ) → i + 1 < n → p i ≡ false → p (i + 1) ≡ false) where
    fails_by : (d i : ℕ) → i + d < n → p i ≡ false → p (i + d) ≡ false
    fails_by zero i l f = let e : i + 0 ≡ i = omega arith in rw e f
    fails_by (suc d) i l f =
        let e : i + suc d ≡ i + d + 1 = omega arith in
        rw e (falls (i + d) (omega arith) (fails_by d i (omega arith) f))

    fails_after : (i j : ℕ) → i ≤ j → j < n → p i ≡ false → p j ≡ false
    fails_after i j h l f = let e : i + (j - i) ≡ j = omega arith in rw e at (fails_by (j - i) i (omega arith) f)

    module _ (low high middle : ℕ) (w : Between p n low high) (here : middle < high) where
      pub upper : p middle ≡ true → Between p n (middle + 1) high
      upper t =
          record {
            order = omega arith;
            inside = w.inside;
            holds = λ i l. by_test (p i) (λ u. u) (λ f. absurd (not_both t (fails_after i middle (omega arith) (omega (arith, w.inside)) f)));
            fails_from = w.fails_from;
          }

      pub lower : low ≤ middle → p middle ≡ false → Between p n low middle
      lower h f = record { order = h; inside = omega (arith, w.inside); holds = w.holds; fails_from = λ i l b. fails_after middle i l b f }

-- the greatest below n, as code finds it
pub greatest_none : (n : ℕ) → n ≡ 0 → none ≡ greatest_below n
unfolding greatest_below
greatest_none n e = rw e

pub greatest_some : (n : ℕ) → (n ≡ 0 → ⊥) → some (n - 1) ≡ greatest_below n
unfolding greatest_below
greatest_some zero h = absurd (h refl)
greatest_some (suc n) h = let e : suc n - 1 ≡ n = omega arith in rw e
