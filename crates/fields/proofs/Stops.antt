-- Where the scan stops, and what the pass then tells of the text.
use Prim.Native.Nat.{ℕ, suc, ◌+◌, ◌≤◌, ◌<◌}
use mathlib.Core.Path.{◌≡◌, refl, sym, ap, ◌∙◌}
use mathlib.Core.List.{List, [], ◌∷◌}
use mathlib.Core.Logic.{◌⊎◌, inl, inr, ⊎_elim}
use mathlib.Core.Option.{none, some}
use lib.ListN.{length, drop, length-drop}
use native.Mathlib.Nat.{add-zero}
use native.Mathlib.Omega.{arith}
use Rattle.base.proofs.Tests.{by_test}
use Rattle.rules.specs.Text.{is_allowed, not_allowed_from}
use Rattle.fields.specs.declared.Pass.{Pass}
use Rattle.fields.specs.declared.Scanned.{Scanned}
use Rattle.fields.specs.Pass.{step, scan_from}
use Rattle.fields.proofs.Over.{run}

module _ (ms os : List ℕ) (end : ℕ) where
  -- The scan of t from the place i on goes through,
  record Through (p : Pass) (i : ℕ) (t : List ℕ) : Type 0 where
    pub place : (scan_from ms os end p i t).at ≡ i + length t
    pub allowed : not_allowed_from i t ≡ none
    pub passed : (scan_from ms os end p i t).pass ≡ run ms os end p i t

  -- or stops at the first byte that is not allowed.
  record Stopped (p : Pass) (i : ℕ) (t : List ℕ) : Type 0 where
    pub within : (scan_from ms os end p i t).at < i + length t
    pub found : not_allowed_from i t ≡ some (scan_from ms os end p i t).at

  stops : (t : List ℕ) (p : Pass) (i : ℕ) → Through p i t ⊎ Stopped p i t
  unfolding scan_from run not_allowed_from
  stops [] p i = inl (record { place = sym (add-zero i); allowed = refl; passed = refl })
  stops (b ∷ t) p i =
      by_test (is_allowed b)
      (λ y. ⊎_elim
      (λ w. inl (record { place = rw y (w.place ∙ omega arith); allowed = rw y w.allowed; passed = rw y w.passed }))
      (λ w. inr (record { within = rw y (up w.within); found = rw y w.found }))
      (stops t (step ms os end p i b) (i + 1)))
      (λ n. inr (record { within = rw n (omega arith); found = rw n }))
    where
      up : {j : ℕ} → j < i + 1 + length t → j < i + suc (length t)
      up l = omega arith

  module _ (s : List ℕ) (p : Pass) (i : ℕ) (w : Scanned) (e : w ≡ scan_from ms os end p i (drop i s)) (l : i ≤ length s) where
    -- to the end of the text
    whole : length s ≤ w.at → Through p i (drop i s)
    whole h =
        ⊎_elim (λ a. a)
        (λ a. absurd (omega (arith, a.within, length-drop i s, ap (λ (x : Scanned). x.at) e)))
        (stops (drop i s) p i)

    pub all_allowed : length s ≤ w.at → not_allowed_from i (drop i s) ≡ none
    all_allowed h = (whole h).allowed

    pub whole_pass : length s ≤ w.at → w.pass ≡ run ms os end p i (drop i s)
    whole_pass h = ap (λ (x : Scanned). x.pass) e ∙ (whole h).passed

    -- or not
    pub not_allowed : w.at < length s → not_allowed_from i (drop i s) ≡ some w.at
    not_allowed h =
        ⊎_elim
        (λ a. absurd (omega (arith, a.place, length-drop i s, ap (λ (x : Scanned). x.at) e)))
        (λ a. a.found ∙ ap (λ (x : Scanned). some x.at) (sym e))
        (stops (drop i s) p i)
