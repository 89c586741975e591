-- The last field of a count and those in front of it: the last is the count by its modulus, the others are the fields of the quotient.
use Prim.Native.Nat.{ℕ, zero, suc, ◌+◌, ◌*◌, ◌/◌, ◌%◌, ◌≤◌, ◌<◌}
use mathlib.Core.Path.{◌≡◌}
use mathlib.Core.List.{List, [], ◌∷◌, ◌++◌, append_assoc}
use lib.Arith.{mod-mul, digits_div, digits_mod}
use lib.ListN.{length, take}
use native.Mathlib.Nat.{mul-one, mul_comm, mul_assoc, mul-pos, zero-mul, mod-lt, div-div-eq-div-mul}
use native.Mathlib.Omega.{arith}
use Rattle.base.specs.Scans.{product}
use Rattle.rules.specs.Print.{field_print, fields_print}
use Rattle.roundtrip.proofs.Fields.{print_last, print_more}

pub product_one : (m : ℕ) → product (m ∷ []) ≡ m
unfolding product
product_one m = mul-one m

pub product_snoc : (ms : List ℕ) (m : ℕ) → product (ms ++ (m ∷ [])) ≡ product ms * m
unfolding product
product_snoc [] m = rw (mul_comm 1 m)
product_snoc (k ∷ ms) m = rw (product_snoc ms m, mul_assoc)

factor_first : (a b : ℕ) → 0 < a * b → 0 < a
factor_first zero b h = rw zero-mul at h
factor_first (suc a) b h = omega arith

factor_second : (a b : ℕ) → 0 < a * b → 0 < b
factor_second a b h = factor_first b a (rw mul_comm at h)

later_positive : (m : ℕ) (ms : List ℕ) → 0 < product (m ∷ ms) → 0 < product ms
unfolding product
later_positive m ms h = factor_second m (product ms) h

pub front_positive : (ms : List ℕ) (i : ℕ) → 0 < product ms → 0 < product (take i ms)
unfolding product
front_positive ms zero h = omega arith
front_positive [] (suc i) h = omega arith
front_positive (m ∷ ms) (suc i) h = mul-pos (factor_first m (product ms) h) (front_positive ms i (later_positive m ms h))

-- the last field and those in front of it
pub fields_snoc : (d c : ℕ) (ms os : List ℕ) (m o : ℕ) → length os ≡ length ms → 1 ≤ length ms → 0 < product ms → 0 < m
    → fields_print d c (ms ++ (m ∷ [])) (os ++ (o ∷ [])) ≡ fields_print d (c / m) ms os ++ (d ∷ field_print (c % m) m o)
fields_snoc d c [] os m o e h p q = absurd (omega arith)
fields_snoc d c (k ∷ ms) [] m o e h p q = absurd (omega arith)
fields_snoc d c (k ∷ []) (s ∷ t ∷ os) m o e h p q = absurd (omega arith)
fields_snoc d c (k ∷ []) (s ∷ []) m o e h p q = rw (print_more d c k m [] s (o ∷ []), product_one m, print_last, print_last)
fields_snoc d c (k ∷ l ∷ ms) (s ∷ []) m o e h p q = absurd (omega arith)
fields_snoc d c (k ∷ l ∷ ms) (s ∷ t ∷ os) m o e h p q =
    rw (
      print_more d c k l (ms ++ (m ∷ [])) s (t ∷ (os ++ (o ∷ []))),
      product_snoc (l ∷ ms) m,
      mod-mul c {m = Q} {c = m} positive q,
      fields_snoc d (c / m % Q * m + c % m) (l ∷ ms) (t ∷ os) m o (omega arith) (omega arith) positive q,
      digits_div (c / m % Q) {m = m} {r = c % m} (mod-lt c q),
      digits_mod (c / m % Q) {m = m} {r = c % m} (mod-lt c q),
      print_more d (c / m) k l ms s (t ∷ os),
      mul_comm Q m,
      ← div-div-eq-div-mul c m Q,
      append_assoc,
    )
  where
    Q : ℕ
    Q = product (l ∷ ms)

    positive : 0 < product (l ∷ ms)
    positive = later_positive k (l ∷ ms) p
