-- Halving counts and times that grow: the row is the definition's.
use Prim.Native.Nat.{ℕ, ◌+◌, ◌-◌, ◌/◌, ◌≤◌, ◌<◌}
use mathlib.Core.Path.{◌≡◌, ◌∙◌}
use mathlib.Core.Bool.{Bool, true, false}
use mathlib.Core.Option.{Option}
use mathlib.Core.List.{List}
use lib.IntN.{ℤ, pos}
use lib.Dec.{leb}
use lib.Signed.{le_z, lt_z}
use lib.ListN.{length, get_or}
use mir.Syntax.{w64}
use mir.Val.{Fits, SFits, to_z, of_z}
use mir.Facts.{to_z-of_z}
use borrow.Author.Tests.{le-leb, lt-leb, leb-false, not-true, not-false}
use native.Mathlib.Omega.{arith}
use Rattle.base.specs.Scans.{greatest_below}
use Rattle.base.proofs.Signed.{before_not_after, after-later}
use Rattle.base.proofs.Halving.{Between, whole, upper, lower, ended}
use Rattle.rules.specs.Time.{segment_of, segment_at}
use Rattle.segment_search.specs.Growing.{CountsGrow, TimesGrow}

-- the row that is looked at
abbrev pub middle_of : ℕ → ℕ → ℕ
middle_of low high = low + (high - low) / 2

-- row i has begun by the count e, by the time t
abbrev pub begun_by : List ℕ → ℕ → ℕ → Bool
begun_by counts e i = leb (get_or counts i 0) e

abbrev pub begun_at : List ℤ → ℤ → ℕ → Bool
begun_at times t i = le_z (get_or times i (pos 0)) t

module _ (counts : List ℕ) (e : ℕ) where
  -- the rows below low have begun, those from high on have not
  abbrev pub CountsLeft : ℕ → ℕ → Type 0
  CountsLeft low high = Between (begun_by counts e) (length counts) low high

  pub counts_start : (n : ℕ) → n ≡ length counts → CountsLeft 0 n
  counts_start n en = rw en (whole (begun_by counts e) (length counts))

  counts_fall : CountsGrow counts → (i : ℕ) → i + 1 < length counts → begun_by counts e i ≡ false → begun_by counts e (i + 1) ≡ false
  counts_fall g i l f = lt-leb (get_or counts (i + 1) 0) e (omega (arith, leb-false (get_or counts i 0) e f, g.grow i l))

  module _ (low high : ℕ) (w : CountsLeft low high) where
    pub count_inside : low < high → middle_of low high < length counts
    count_inside h = omega (arith, w.inside)

    -- the code has the count x of the middle row, wherever it lies
    module _ (g : CountsGrow counts) (h : low < high) (x : ℕ) where
      pub counts_lower : e < x → x ≡ get_or counts (middle_of low high) 0 → CountsLeft low (middle_of low high)
      counts_lower b ex =
          lower (begun_by counts e) (length counts) (counts_fall g) low high _ w (omega arith) (omega arith) (lt-leb _ _ (rw ex at b))

      pub counts_upper : x ≤ e → x ≡ get_or counts (middle_of low high) 0 → CountsLeft (middle_of low high + 1) high
      counts_upper b ex = upper (begun_by counts e) (length counts) (counts_fall g) low high _ w (omega arith) (le-leb _ _ (rw ex at b))

    pub count_found : (a : Option ℕ) → a ≡ greatest_below low → high ≤ low → a ≡ segment_of counts e
    unfolding segment_of
    count_found a ea h = ea ∙ ended (begun_by counts e) (length counts) low high w h

module _ (times : List ℤ) (t : ℤ) where
  abbrev pub TimesLeft : ℕ → ℕ → Type 0
  TimesLeft low high = Between (begun_at times t) (length times) low high

  pub times_start : (n : ℕ) → n ≡ length times → TimesLeft 0 n
  times_start n en = rw en (whole (begun_at times t) (length times))

  times_fall : TimesGrow times → (i : ℕ) → i + 1 < length times → begun_at times t i ≡ false → begun_at times t (i + 1) ≡ false
  times_fall g i l f = after-later (get_or times i (pos 0)) (get_or times (i + 1) (pos 0)) t (g.grow i l) f

-- a time is its bits in the loop: each law reads them back
module _ (times : List ℤ) (t : ℤ) (low high : ℕ) (w : TimesLeft times (to_z w64 (of_z w64 t)) low high) where
  pub time_inside : low < high → middle_of low high < length times
  time_inside h = omega (arith, w.inside)

  -- where the code has the number of rows from elsewhere
  module _ (h : low < high) (n : ℕ) (en : n ≡ length times) (f : Fits w64 n) where
    pub middle_fits : Fits w64 (middle_of low high)
    middle_fits = record { fits = omega (arith, w.inside, f.fits) }

    pub after-middle-fits : Fits w64 (middle_of low high + 1)
    after-middle-fits = record { fits = omega (arith, w.inside, f.fits) }

  -- the code has the time x of the middle row, wherever it lies
  module _ (g : TimesGrow times) (h : low < high) (x : ℤ) where
    pub times_lower : lt_z (to_z w64 (of_z w64 t)) (to_z w64 (of_z w64 x)) ≡ true → x ≡ get_or times (middle_of low high) (pos 0) → SFits w64 x → TimesLeft times (to_z w64 (of_z w64 t)) low (middle_of low high)
    times_lower b ex s =
        lower (begun_at times (to_z w64 (of_z w64 t))) (length times) (times_fall times _ g) low high _ w (omega arith) (omega arith)
        (not-true _ (rw (before_not_after, to_z-of_z s, ex) at b))

    pub times_upper : lt_z (to_z w64 (of_z w64 t)) (to_z w64 (of_z w64 x)) ≡ false → x ≡ get_or times (middle_of low high) (pos 0) → SFits w64 x → TimesLeft times (to_z w64 (of_z w64 t)) (middle_of low high + 1) high
    times_upper b ex s =
        upper (begun_at times (to_z w64 (of_z w64 t))) (length times) (times_fall times _ g) low high _ w (omega arith)
        (not-false _ (rw (before_not_after, to_z-of_z s, ex) at b))

  pub time_found : SFits w64 t → (a : Option ℕ) → a ≡ greatest_below low → high ≤ low → a ≡ segment_at times t
  unfolding segment_at
  time_found st a ea h = ea ∙ (rw (to_z-of_z st) at (ended (begun_at times (to_z w64 (of_z w64 t))) (length times) low high w h))
