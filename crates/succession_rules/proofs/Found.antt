-- The first row that fails, as a number of rows: below n it is that row, and at n there is none.
use Prim.Native.Nat.{ℕ, ◌≤◌, ◌<◌}
use native.Mathlib.Omega.{arith}
use mathlib.Core.Path.{◌≡◌, refl, sym, ap, ◌∙◌}
use mathlib.Core.Bool.{Bool, true}
use mathlib.Core.Option.{Option, none, some}
use Rattle.base.specs.Scans.{first_not}
use Rattle.base.proofs.Scans.{first_not_found, first_not_missing}
use Rattle.succession_rules.specs.Kept.{row_or}

module _ (p : ℕ → Bool) (n i : ℕ) (e : i ≡ row_or n (first_not p n)) where
  found_at : (o : Option ℕ) → first_not p n ≡ o → i < n → first_not p n ≡ some i
  unfolding row_or
  found_at (some j) q b = let same : i ≡ j = rw q at e in q ∙ ap some (sym same)
  found_at none q b = let same : i ≡ n = rw q at e in absurd (omega arith)

  none_at : (o : Option ℕ) → first_not p n ≡ o → n ≤ i → first_not p n ≡ none
  unfolding row_or
  none_at (some j) q b = let same : i ≡ j = rw q at e in absurd (omega (arith, (first_not_found p n j q).below))
  none_at none q b = q

  pub row_found : i < n → first_not p n ≡ some i
  row_found b = found_at (first_not p n) refl b

  pub row_none : n ≤ i → first_not p n ≡ none
  row_none b = none_at (first_not p n) refl b

  before_at : (o : Option ℕ) → first_not p n ≡ o → (j : ℕ) → j < i → p j ≡ true
  unfolding row_or
  before_at (some k) q j b = let same : i ≡ k = rw q at e in (first_not_found p n k q).before j (omega arith)
  before_at none q j b = let same : i ≡ n = rw q at e in first_not_missing p n j q (omega arith)

  most_at : (o : Option ℕ) → first_not p n ≡ o → i ≤ n
  unfolding row_or
  most_at (some k) q = let same : i ≡ k = rw q at e in omega (arith, (first_not_found p n k q).below)
  most_at none q = let same : i ≡ n = rw q at e in omega arith

  -- every row before it holds
  pub row_before_lem : (j : ℕ) → j < i → p j ≡ true
  row_before_lem j b = before_at (first_not p n) refl j b

  pub row_most : i ≤ n
  row_most = most_at (first_not p n) refl
