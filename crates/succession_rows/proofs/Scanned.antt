-- A loop along rows that stops at the first that fails: every row before row i holds.
use Prim.Native.Nat.{ℕ, ◌+◌, ◌≤◌, ◌<◌}
use native.Mathlib.Numerals.{add-one}
use native.Mathlib.Omega.{arith}
use mathlib.Core.Path.{◌≡◌}
use mathlib.Core.Bool.{Bool, true, false}
use Rattle.base.specs.Scans.{all_below, first_not}
use Rattle.base.proofs.Tests.{and_both}
use Rattle.base.proofs.Scans.{all_at, all_start, first_not_is, first_not_none}
use Rattle.succession_rules.specs.Kept.{row_or}

pub record HeldTo (p : ℕ → Bool) (i : ℕ) : Type 0 where
  pub before : all_below p i ≡ true

pub start : (p : ℕ → Bool) → HeldTo p 0
start p = record { before = all_start p }

module _ (p : ℕ → Bool) (i : ℕ) (w : HeldTo p i) where
  pub next : p i ≡ true → HeldTo p (i + 1)
  unfolding all_below
  next h = record { before = rw add-one (and_both w.before h) }

  module _ (n : ℕ) where
    pub stopped : i < n → p i ≡ false → i ≡ row_or n (first_not p n)
    unfolding row_or
    stopped b f = rw (first_not_is p n i (record { below = b; fails_here = f; before = λ j h. all_at p i j w.before h }))

    pub ended : n ≤ i → n ≡ row_or n (first_not p n)
    unfolding row_or
    ended b = rw (first_not_none p n (λ j h. all_at p i j w.before (omega arith)))
