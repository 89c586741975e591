-- The bytes of a kind at the front of a text: a walk along them, and the first byte of another kind.
use Prim.Native.Nat.{ℕ, suc, ◌+◌, ◌≤◌, ◌<◌}
use mathlib.Core.Path.{◌≡◌, refl, sym, ◌∙◌}
use mathlib.Core.Bool.{Bool, true, false, not}
use mathlib.Core.List.{List, [], ◌∷◌}
use mathlib.Core.Option.{none, some}
use lib.ListN.{length, get_or, drop, drop_of_length-le, length-drop}
use native.Mathlib.Nat.{add-zero}
use native.Mathlib.Omega.{arith}
use borrow.Author.Tests.{not-true, not-false}
use Rattle.base.specs.Scans.{all}
use Rattle.base.proofs.Tests.{by_test, and_both}
use Rattle.base.proofs.Lists.{drop_next}
use Rattle.command_rules.specs.Input.{first_other}
use Rattle.command_input.specs.Runs.{run_length}

module _ (p : ℕ → Bool) where
  -- a run that is the whole text
  pub run_all : (s : List ℕ) → length s ≤ run_length p s → all p s ≡ true
  unfolding run_length all
  run_all [] h = refl
  run_all (b ∷ s) h = by_test (p b) (λ t. and_both t (run_all s (less (rw t at h)))) (λ f. absurd (none_left (rw f at h)))
    where
      less : suc (length s) ≤ suc (run_length p s) → length s ≤ run_length p s
      less l = omega arith

      none_left : suc (length s) ≤ 0 → ⊥
      none_left l = omega arith

  first_some : (i : ℕ) (s : List ℕ) → run_length p s < length s → first_other p i s ≡ some (i + run_length p s)
  unfolding run_length first_other
  first_some i [] h = absurd (omega arith)
  first_some i (b ∷ s) h =
      by_test (p b)
      (λ t. rw t (first_some (i + 1) s (less (rw t at h)) ∙ rw (moved (run_length p s))))
      (λ f. rw (f, add-zero i))
    where
      less : suc (run_length p s) < suc (length s) → run_length p s < length s
      less l = omega arith

      moved : (n : ℕ) → i + 1 + n ≡ i + suc n
      moved n = omega arith

  first_none : (i : ℕ) (s : List ℕ) → length s ≤ run_length p s → first_other p i s ≡ none
  unfolding run_length first_other
  first_none i [] h = refl
  first_none i (b ∷ s) h = by_test (p b) (λ t. rw t (first_none (i + 1) s (less (rw t at h)))) (λ f. absurd (none_left (rw f at h)))
    where
      less : suc (length s) ≤ suc (run_length p s) → length s ≤ run_length p s
      less l = omega arith

      none_left : suc (length s) ≤ 0 → ⊥
      none_left l = omega arith

  -- the run from the place i on, which ends at the place e
  module _ (s : List ℕ) (i e : ℕ) (h : e ≡ i + run_length p (drop i s)) where
    pub other_found : e < length s → first_other p i (drop i s) ≡ some e
    other_found l = rw h (first_some i (drop i s) (omega (arith, length-drop i s)))

    pub other_missing : length s ≤ e → first_other p i (drop i s) ≡ none
    other_missing l = first_none i (drop i s) (omega (arith, length-drop i s))

    -- the walk along it; t: the byte at the place i is of the kind
    pub run_next : (t : Bool) → i < length s → t ≡ p (get_or s i 0) → not t ≡ false → e ≡ i + 1 + run_length p (drop (i + 1) s)
    unfolding run_length
    run_next t l d n = h ∙ rw (drop_next s i 0 l, ← d, not-false t n) (omega arith)

    pub run_stop : (t : Bool) → i < length s → t ≡ p (get_or s i 0) → not t ≡ true → i ≡ e
    unfolding run_length
    run_stop t l d n = sym (h ∙ rw (drop_next s i 0 l, ← d, not-true t n) (add-zero i))

    pub run_past : length s ≤ i → i ≡ e
    unfolding run_length
    run_past l = sym (h ∙ rw (drop_of_length-le s l) (add-zero i))
