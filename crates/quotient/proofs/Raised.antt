-- A turn on a number that is raised, so that it reaches 2^63 where the number reaches the divisor.
-- Assumes nothing.
use Rattle.std.proofs.Common.{◌≡◌, ℕ, ◌+◌, ◌-◌, ◌%◌, ◌^◌, ◌<◌, ◌≤◌, cond, ltb, leb, sym, ◌∙◌, mod-eq_of_lt, arith, ltb-false, ltb-true, leb-false, leb-true}
use native.Mathlib.Nat.{mod-eq-sub-mod}
use mir.Val.{bool_byte}
use Rattle.quotient.specs.Steps.{Divided, Raised, lowered}
use Rattle.base.proofs.Tests.{by_test}

-- a sum modulo M that is below 2 M
module _ (M a b : ℕ) (is : a % M ≡ b) (two : a < M + M) where
  same : a < M → a ≡ b
  same l = sym (mod-eq_of_lt l) ∙ is

  wrapped : M ≤ a → a ≡ b + M
  wrapped over =
      let less : a - M < M = omega arith in
      omega (arith, mod-eq-sub-mod over, mod-eq_of_lt less)

-- modulo 2 H, where x is raised to y
module _ (H x y d n t₁ t₂ h p r : ℕ) (level : y + d ≡ x + H) (below : x < d + d) (most : d ≤ H) (digit : n < 2) (fits : y < H + H) (twice : t₁ ≡ (y + y) % (H + H)) (more : t₂ ≡ (t₁ + n) % (H + H))
    (upper : h ≡ (H + d) % (H + H)) (part : p ≡ cond (leb H y) h (H - d)) (rest : (r + p) % (H + H) ≡ t₂) (word : r < H + H) where
  pub turned : Divided (x + x + n) (d + d) (bool_byte (leb H y)) (r + d - H) × (r + d ≡ r + d - H + H)
  turned =
      by_test (leb H y)
      (λ t.
      let above = leb-true H y t in
      let first = wrapped (H + H) (y + y) t₁ (sym twice) (omega arith) (omega arith) in
      let second = same (H + H) (t₁ + n) t₂ (sym more) (omega arith) (omega arith) in
      let chosen : p ≡ h = rw t at part in
      rw t
      (by_test (ltb d H)
      (λ l.
      let less = ltb-true d H l in
      let third = same (H + H) (H + d) h (sym upper) (omega arith) (omega arith) in
      by_test (ltb (r + p) (H + H))
      (λ u. let fourth = same (H + H) (r + p) t₂ rest (omega arith) (ltb-true (r + p) (H + H) u) in (record { whole = omega arith; small = omega arith }, omega arith))
      (λ v. let fourth = wrapped (H + H) (r + p) t₂ rest (omega arith) (ltb-false (r + p) (H + H) v) in (record { whole = omega arith; small = omega arith }, omega arith)))
      (λ g.
      let full = ltb-false d H g in
      let third = wrapped (H + H) (H + d) h (sym upper) (omega arith) (omega arith) in
      let fourth = same (H + H) (r + p) t₂ rest (omega arith) (omega arith) in
      (record { whole = omega arith; small = omega arith }, omega arith))))
      (λ f.
      let under = leb-false H y f in
      let first = same (H + H) (y + y) t₁ (sym twice) (omega arith) (omega arith) in
      let second = same (H + H) (t₁ + n) t₂ (sym more) (omega arith) (omega arith) in
      let chosen : p ≡ H - d = rw f at part in
      rw f
      (by_test (ltb (r + p) (H + H))
      (λ u. let fourth = same (H + H) (r + p) t₂ rest (omega arith) (ltb-true (r + p) (H + H) u) in (record { whole = omega arith; small = omega arith }, omega arith))
      (λ v. let fourth = wrapped (H + H) (r + p) t₂ rest (omega arith) (ltb-false (r + p) (H + H) v) in (record { whole = omega arith; small = omega arith }, omega arith))))

-- the same in words
pub turned_word : (y d n t₁ t₂ h p r : ℕ) → Raised d y → d ≤ 2 ^ 63 → n < 2 → y < 2 ^ 64 → t₁ ≡ (y + y) % 2 ^ 64 → t₂ ≡ (t₁ + n) % 2 ^ 64 → h ≡ (2 ^ 63 + d) % 2 ^ 64 → p ≡ cond (leb (2 ^ 63) y) h (2 ^ 63 - d) → (r + p) % 2 ^ 64 ≡ t₂ → r < 2 ^ 64 → Divided (lowered d y + lowered d y + n) (d + d) (bool_byte (leb (2 ^ 63) y)) (lowered d r) × Raised d r
unfolding lowered
turned_word y d n t₁ t₂ h p r raised most digit fits twice more upper part rest word =
    let t = turned (2 ^ 63) (lowered d y) y d n t₁ t₂ h p r raised.exact raised.below most digit fits twice more upper part rest word in
    (t.0, record { exact = t.1; below = t.0.small })
