-- Digits of one width, one field, and the fields of a count: the print of the smaller number stands first.
use Prim.Native.Nat.{ℕ, zero, suc, ◌+◌, ◌-◌, ◌*◌, ◌/◌, ◌%◌, ◌^◌, ◌≤◌, ◌<◌}
use mathlib.Core.Path.{◌≡◌, sym, ap, ◌∙◌}
use mathlib.Core.Bool.{true}
use mathlib.Core.List.{List, [], ◌∷◌}
use mathlib.Core.Logic.{◌⊎◌, inl, inr, ⊎_elim}
use lib.Dec.{ltb}
use lib.ListN.{length}
use borrow.Author.Tests.{ltb-true, ltb-false}
use native.Mathlib.Nat.{mod-lt, mul-one, pow-suc, div-mul-le_self, le-div_iff_mul-le, div-add-mod'}
use native.Mathlib.Omega.{arith}
use Rattle.base.specs.Scans.{product}
use Rattle.base.proofs.Tests.{by_test}
use Rattle.rules.specs.Print.{last_digits, field_width, field_print, fields_print}
use Rattle.roundtrip.proofs.Digits.{digits_enough, last_length}
use Rattle.roundtrip.proofs.Fields.{print_last, print_more}
use Rattle.roundtrip.specs.Fields.{FieldsFacts}
use Rattle.roundtrip.proofs.Split.{first_facts, quotient_below}
use Rattle.roundtrip.proofs.Length.{field_digits, field_length}
use Rattle.print_order.specs.Order.{sorts_before}
use Rattle.print_order.proofs.Bytes.{sorts_less, sorts_rest, sorts_front, sorts_same}

-- of two numbers the smaller has the smaller quotient, or the same and the smaller remainder
quotient_decides : (x y q : ℕ) → 1 ≤ q → x < y → (x / q < y / q) ⊎ ((x / q ≡ y / q) × (x % q < y % q))
quotient_decides x y q p h =
    by_test (ltb (x / q) (y / q))
    (λ t. inl (ltb-true (x / q) (y / q) t))
    (λ f. inr (same (omega (arith, up, ltb-false (x / q) (y / q) f))))
  where
    up : x / q ≤ y / q
    up = (le-div_iff_mul-le {k = q} {x = x / q} {y = y} p).1 (omega (arith, div-mul-le_self x q))

    same : x / q ≡ y / q → (x / q ≡ y / q) × (x % q < y % q)
    same e = (e, omega (arith, div-add-mod' x q, div-add-mod' y q, ap (λ k. k * q) e))

pub digits_sort : (w x y : ℕ) → x < y → y < 10 ^ w → sorts_before (last_digits w x) (last_digits w y) ≡ true
unfolding last_digits
digits_sort zero x y h l = absurd (omega arith)
digits_sort (suc w) x y h l =
    ⊎_elim
    (λ k. sorts_front (last_digits w (x / 10)) (last_digits w (y / 10)) _ _ (last_length w (x / 10) ∙ sym (last_length w (y / 10))) (digits_sort w (x / 10) (y / 10) k (omega (arith, pow-suc 10 w))))
    (λ e. rw (e.0, sorts_same) (sorts_less (48 + x % 10) (48 + y % 10) [] [] (omega arith)))
    (quotient_decides x y 10 (omega arith) h)

field_sort : (v u m o : ℕ) → v < u → u < m → sorts_before (field_print v m o) (field_print u m o) ≡ true
unfolding field_width
field_sort v u m o h l =
    rw (field_digits v m o (omega arith), field_digits u m o l) (digits_sort (field_width m o) (v + o) (u + o) (omega arith) (omega (arith, digits_enough (m + o - 1))))

pub fields_sort : (d c e : ℕ) (ms os : List ℕ) → 1 ≤ length ms → FieldsFacts ms os → c < e → e < product ms
    → sorts_before (fields_print d c ms os) (fields_print d e ms os) ≡ true
unfolding product
fields_sort d c e [] os some f h l = absurd (omega arith)
fields_sort d c e (m ∷ ms) [] some f h l = absurd (omega (arith, f.one_length))
fields_sort d c e (m ∷ []) (o ∷ os) some f h l = rw (print_last d c m o os, print_last d e m o os) (field_sort c e m o h (omega (arith, mul-one m)))
fields_sort d c e (m ∷ k ∷ ms) (o ∷ os) some f h l =
    let g = first_facts m (k ∷ ms) o os f in
    let Q = product (k ∷ ms) in
    let below = quotient_below e m (k ∷ ms) g.unit l in
    rw (print_more d c m k ms o os, print_more d e m k ms o os)
    (⊎_elim
    (λ t. sorts_front (field_print (c / Q) m o) (field_print (e / Q) m o) _ _ (field_length (c / Q) m o (omega arith) ∙ sym (field_length (e / Q) m o below)) (field_sort (c / Q) (e / Q) m o t below))
    (λ w. rw (w.0, sorts_same, sorts_rest d d _ _) (fields_sort d (c % Q) (e % Q) (k ∷ ms) os (omega arith) g.later w.1 (mod-lt e g.unit)))
    (quotient_decides c e Q g.unit h))
