-- The parts of a text: `part text at end` is what stands from `at` to before `end`.
use Prim.Native.Nat.{ℕ, zero, suc, ◌+◌, ◌-◌, ◌≤◌, ◌<◌}
use mathlib.Core.Path.{◌≡◌, sym, ap, ◌∙◌}
use mathlib.Core.Bool.{Bool, false}
use mathlib.Core.List.{List, [], ◌∷◌}
use lib.ListN.{length, take, drop, get_or, length-drop, length-take}
use lib.Seq.{drop-drop, take-take, take-nil, get_or-take, get_or-drop}
use native.Mathlib.Omega.{arith}
use Rattle.base.proofs.Tests.{by_test}
use Rattle.base.proofs.Lists.{drop_next}
use Rattle.kernel_rules.specs.Lines.{part, span}

drop_take : (n m : ℕ) (l : List ℕ) → drop n (take m l) ≡ take (m - n) (drop n l)
drop_take zero m l = ap (λ (k : ℕ). take k l) same
  where
    same : m ≡ m - 0
    same = omega arith
drop_take (suc n) zero [] = sym (take-nil (0 - suc n))
drop_take (suc n) zero (x ∷ l) = ap (λ (k : ℕ). take k (drop n l)) none
  where
    none : 0 ≡ 0 - suc n
    none = omega arith
drop_take (suc n) (suc m) [] = sym (take-nil (suc m - suc n))
drop_take (suc n) (suc m) (x ∷ l) = drop_take n m l ∙ ap (λ (k : ℕ). take k (drop n l)) less
  where
    less : m - n ≡ suc m - suc n
    less = omega arith

module _ (text : List ℕ) (at end : ℕ) where
  pub part_length : end ≤ length text → length (part text at end) ≡ end - at
  part_length h = length-take (end - at) (drop at text) ∙ omega (arith, length-drop at text)

  pub part_drop : (n : ℕ) → drop n (part text at end) ≡ part text (at + n) end
  part_drop n = drop_take n (end - at) (drop at text) ∙ rw (drop-drop n at text) (ap (λ (k : ℕ). take k (drop (at + n) text)) less)
    where
      less : end - at - n ≡ end - (at + n)
      less = omega arith

  pub part_take : (n : ℕ) → at + n ≤ end → take n (part text at end) ≡ part text at (at + n)
  part_take n h = take-take n (end - at) (drop at text) (omega arith) ∙ ap (λ (k : ℕ). take k (drop at text)) same
    where
      same : n ≡ at + n - at
      same = omega arith

  pub part_none : end ≤ at → part text at end ≡ []
  part_none h = ap (λ (k : ℕ). take k (drop at text)) none
    where
      none : end - at ≡ 0
      none = omega arith

  pub part_get_d : (n : ℕ) → at + n < end → get_or (part text at end) n 0 ≡ get_or text (at + n) 0
  part_get_d n h = get_or-take (end - at) (drop at text) n 0 (omega arith) ∙ get_or-drop at text n 0

  pub part_next : at < end → end ≤ length text → part text at end ≡ get_or text at 0 ∷ part text (at + 1) end
  part_next h k =
      drop_next (part text at end) 0 0 (omega (arith, part_length k))
      ∙ rw (part_drop 1) (ap (λ (b : ℕ). b ∷ part text (at + 1) end) (part_get_d 0 (omega arith) ∙ ap (λ (i : ℕ). get_or text i 0) same))
    where
      same : at + 0 ≡ at
      same = omega arith

-- a span of bytes of a kind ends before a byte of another
pub span_stops : (p : ℕ → Bool) (s : List ℕ) → span p s < length s → p (get_or s (span p s) 0) ≡ false
unfolding span
span_stops p [] h = absurd (omega arith)
span_stops p (b ∷ s) h =
    by_test (p b)
    (λ t. let k : span p s + 1 < suc (length s) = rw t at h in rw (t, next (span p s)) (span_stops p s (omega (arith, k))))
    (λ f. rw f f)
  where
    next : (n : ℕ) → get_or (b ∷ s) (n + 1) 0 ≡ get_or s n 0
    next n = ap (λ (i : ℕ). get_or (b ∷ s) i 0) (up n)
      where
        up : (n : ℕ) → n + 1 ≡ suc n
        up n = omega arith
