-- The pass over fields ends in the count of rules' specs/Text.antt: the same refusal, or the same sum.
use Prim.Native.Nat.{ℕ, zero, suc, ◌+◌, ◌-◌, ◌*◌, ◌≤◌, ◌<◌, min}
use mathlib.Core.Path.{◌≡◌, refl, sym, ap, ◌∙◌}
use mathlib.Core.Bool.{true, cond, ◌||◌}
use mathlib.Core.List.{List, [], ◌∷◌}
use lib.Dec.{leb, ltb, eqb}
use lib.ListN.{length, get_or, drop}
use borrow.Author.Tests.{leb-true, leb-false, lt-ltb, le-ltb, eqb-true, eqb-false}
use native.Mathlib.Nat.{add-mul, mul_assoc, zero-mul, zero-add, add-zero, sub-zero, le_refl}
use native.Mathlib.Omega.{arith}
use Rattle.base.specs.Scans.{product}
use Rattle.base.proofs.Lists.{drop_next}
use Rattle.base.proofs.Tests.{by_test, or_second}
use Rattle.rules.specs.Limits.{largest_field, largest_count}
use Rattle.rules.specs.declared.Reading.{Reading}
use Rattle.rules.specs.Answer.{Answer, refuse_at, unless, unless_at, fails_at}
use Rattle.rules.specs.Text.{
  Field,
  first_digit,
  is_present,
  value_of,
  ticks_of,
  sum_of,
  first_present,
  not_above,
  not_below,
  each_field,
  surplus_at,
  fields_from,
  fields_count,
}
use Rattle.fields.specs.declared.Fault.{Fault}
use Rattle.fields.specs.declared.Fault.TheVariants as Faults
use Rattle.fields.specs.declared.Pass.{Pass}
use Rattle.fields.specs.Pass.{
  field_cap,
  sum_cap,
  fresh,
  is_surplus,
  or_fault,
  value_fault,
  fault_in,
  fault_with,
  found_with,
  surplus_in,
  ticks_in,
  sum_with,
  begun,
  next,
  count_of,
  sum_in,
  total,
}
use Rattle.fields.proofs.Caps.{cap_mul_add, cap_mul}
use Rattle.fields.proofs.Steps.{next_surplus, next_last, next_one}
use Rattle.fields.proofs.Over.{filled, ended, run, over, split}

ticks_exact : (k sum : ℕ) (fault : Fault) (found : ℕ) (o m : ℕ) (f : Field) → not_above f ≡ true → ticks_in (filled k sum fault found f) o * m ≡ ticks_of f o m
unfolding not_above ticks_in ticks_of
ticks_exact k sum fault found o m [] h = zero-mul m
ticks_exact k sum fault found o m (d ∷ ds) h = let e : min (value_of (d ∷ ds)) field_cap ≡ value_of (d ∷ ds) = omega (arith, leb-true (value_of (d ∷ ds)) largest_field h) in rw e

-- the field f, and then what follows
abbrev judged : Field → ℕ → Answer Reading → Answer Reading
judged f o a = unless_at 9 (fails_at (first_digit f) (not_above f)) (unless_at 8 (fails_at (first_digit f) (not_below f o)) a)

-- an empty field passes where it is not the first; another is above, below its offset, or right
fault_in_lem : (k sum : ℕ) (fault : Fault) (found : ℕ) (o : ℕ) (f : Field) (x y : Answer Reading) → (not_above f ≡ true → x ≡ y) →
    unless 6 (ltb 0 k || is_present f) (judged f o x) ≡ or_fault (fault_in (filled k sum fault found f) o) (first_digit f) y
unfolding fault_in or_fault unless unless_at fails_at not_above not_below value_fault
fault_in_lem k sum fault found o [] x y h =
    by_test (eqb k 0)
    (λ z. rw (eqb-true k 0 z))
    (λ n. let l : ltb 0 k ≡ true = lt-ltb 0 k (positive (eqb-false k 0 n)) in rw (n, l) (h refl))
  where
    positive : (k ≡ 0 → ⊥) → 0 < k
    positive d = omega arith
fault_in_lem k sum fault found o (d ∷ ds) x y h =
    let v = value_of (d ∷ ds) in
    rw (or_second (ltb 0 k) {b = true} refl)
    (by_test (leb v largest_field)
    (λ t. let e : min v field_cap ≡ v = omega (arith, leb-true v largest_field t) in
    rw (e, t) (by_test (leb o v) (λ u. rw u (h t)) (λ u. rw u)))
    (λ n. let e : min v field_cap ≡ field_cap = omega (arith, leb-false v largest_field n) in rw (e, n)))

gathered : (a m t r x y : ℕ) → t * r ≡ x → a * (m * r) + (x + y) ≡ (a * m + t) * r + y
gathered a m t r x y e = omega (arith, add-mul (a * m) t r, mul_assoc a m r)

fault_with_lem : (k sum : ℕ) (fault : Fault) (found : ℕ) (o : ℕ) (f : Field) (x y : Answer Reading) → (not_above f ≡ true → x ≡ y) →
    or_fault fault found (unless 6 (ltb 0 k || is_present f) (judged f o x)) ≡ or_fault (fault_with (filled k sum fault found f) o) (found_with (filled k sum fault found f)) y
unfolding fault_with found_with or_fault
fault_with_lem k sum Faults.None found o f x y h = fault_in_lem k sum Faults.None found o f x y h
fault_with_lem k sum Faults.Missing found o f x y h = refl
fault_with_lem k sum Faults.Below found o f x y h = refl
fault_with_lem k sum Faults.Above found o f x y h = refl
fault_with_lem k sum Faults.Surplus found o f x y h = refl

drop_none : (m : ℕ) → ◌≡◌ {A = List Field} (drop m []) []
drop_none zero = refl
drop_none (suc m) = refl

-- of a text that ends at the place `end`
module _ (ms os : List ℕ) (end : ℕ) (e : length os ≡ length ms) where
  count_capped : (t : ℕ) → count_of end (min t sum_cap) ≡ count_of end t
  unfolding count_of unless_at fails_at
  count_capped t =
      by_test (leb t largest_count)
      (λ y. let e : min t sum_cap ≡ t = omega (arith, leb-true t largest_count y) in rw e)
      (λ n. let e : min t sum_cap ≡ sum_cap = omega (arith, leb-false t largest_count n) in rw (e, n))

  -- where the 7 of a first surplus field f stands
  abbrev surplus : Field → ℕ
  surplus f = cond (is_present f) (first_digit f) end

  -- what is left to answer at the field k, after the ticks acc and the first fault
  rest : ℕ → Fault → ℕ → ℕ → List Field → Answer Reading
  rest k fault found acc fs =
      unless_at 7 (surplus_at end (drop (length ms - k) fs))
      (or_fault fault found
      (unless 6 (ltb 0 k || first_present fs)
      (each_field fs (drop k os)
      (count_of end (acc * product (drop k ms) + sum_of fs (drop k ms) (drop k os))))))

  -- that of the first surplus field, where f is one
  abbrev first_of : Fault → ℕ → Field → ℕ
  first_of fault found f = cond (is_surplus fault) found (surplus f)

  -- a surplus field: the first one's 7 stays
  next_stuck : (sum : ℕ) (fault : Fault) (found : ℕ) (f : Field) → next ms os end (filled (length ms) sum fault found f) ≡ fresh (length ms) 0 Faults.Surplus (first_of fault found f)
  unfolding surplus_in
  next_stuck sum fault found f = sym (next_surplus ms os end (filled (length ms) sum fault found f) _ (first_of fault found f) (le_refl _) refl refl)

  stuck : (fs : List Field) (sum : ℕ) (fault : Fault) (found : ℕ) (f : Field) → total ms os end (over ms os end (length ms) sum fault found f fs) ≡ refuse_at 7 (first_of fault found f)
  unfolding total over surplus_in
  stuck [] sum fault found f = rw (le-ltb (length ms) (length ms) (le_refl _))
  stuck (g ∷ fs) sum fault found f =
      ap (λ (q : Pass). total ms os end (over ms os end q.field q.sum q.fault q.found g fs)) (next_stuck sum fault found f) ∙ stuck fs 0 Faults.Surplus _ g

  module _ (k sum : ℕ) (fault : Fault) (found : ℕ) (acc : ℕ) (f : Field) (h : k < length ms) (c : sum ≡ min acc sum_cap) where
    abbrev m : ℕ
    m = get_or ms k 0

    abbrev o : ℕ
    o = get_or os k 0

    abbrev p : Pass
    p = filled k sum fault found f

    abbrev acc' : ℕ
    acc' = acc * m + ticks_in p o

    sum_with_lem : sum_with p m o ≡ min acc' sum_cap
    unfolding sum_with ticks_in
    sum_with_lem = rw c (cap_mul_add acc m (ticks_in p o) sum_cap)

    sums : (fs : List Field) → not_above f ≡ true → acc * product (drop k ms) + sum_of (f ∷ fs) (drop k ms) (drop k os) ≡ acc' * product (drop (k + 1) ms) + sum_of fs (drop (k + 1) ms) (drop (k + 1) os)
    unfolding product sum_of
    sums fs n = rw (drop_next ms k 0 h, drop_next os k 0 (omega arith)) (gathered acc m (ticks_in p o) (product (drop (k + 1) ms)) _ (sum_of fs (drop (k + 1) ms) (drop (k + 1) os)) (ticks_exact k sum fault found o _ f n))

    each_next : (fs : List Field) (x : Answer Reading) → each_field (f ∷ fs) (drop k os) x ≡ judged f o (each_field fs (drop (k + 1) os) x)
    unfolding each_field
    each_next fs x = rw (drop_next os k 0 (omega arith))

    -- one field less, one place less to the first surplus field
    less : length ms - k ≡ suc (length ms - (k + 1))
    less = omega arith

    -- closing the field f
    rest_next : (fs : List Field) → rest k fault found acc (f ∷ fs) ≡
        unless_at 7 (surplus_at end (drop (length ms - (k + 1)) fs))
        (or_fault (fault_with p o) (found_with p)
        (each_field fs (drop (k + 1) os)
        (count_of end (acc' * product (drop (k + 1) ms) + sum_of fs (drop (k + 1) ms) (drop (k + 1) os)))))
    unfolding rest each_field
    rest_next fs =
        rw less
        (ap (λ x. unless_at 7 (surplus_at end (drop (length ms - (k + 1)) fs)) (or_fault fault found (unless 6 (ltb 0 k || is_present f) x)))
        (each_next fs (count_of end (acc * product (drop k ms) + sum_of (f ∷ fs) (drop k ms) (drop k os))))
        ∙ ap (unless_at 7 (surplus_at end (drop (length ms - (k + 1)) fs)))
        (fault_with_lem k sum fault found o f _ _ (λ n. ap (λ x. each_field fs (drop (k + 1) os) (count_of end x)) (sums fs n))))

    sum_in_lem : sum_in ms os end p ≡ min (acc' * product (drop (k + 1) ms)) sum_cap
    unfolding sum_in
    sum_in_lem = rw sum_with_lem (cap_mul acc' (product (drop (k + 1) ms)) sum_cap)

    ends : total ms os end p ≡ rest k fault found acc (f ∷ [])
    unfolding total each_field unless_at surplus_at sum_of
    ends =
        let t = acc' * product (drop (k + 1) ms) in
        sym
        (rest_next []
        ∙ rw (drop_none, add-zero, lt-ltb k (length ms) h)
        (ap (or_fault (fault_with p o) (found_with p)) (sym (count_capped t) ∙ ap (count_of end) (sym sum_in_lem))))

    too_many : (g : Field) (fs : List Field) → length ms ≤ k + 1 → rest k fault found acc (f ∷ g ∷ fs) ≡ refuse_at 7 (surplus g)
    unfolding rest unless_at surplus_at
    too_many g fs l = let one : length ms - k ≡ 1 = omega arith in rw one

    goes_on : (g : Field) (fs : List Field) → rest (k + 1) (fault_with p o) (found_with p) acc' (g ∷ fs) ≡ rest k fault found acc (f ∷ g ∷ fs)
    unfolding rest unless
    goes_on g fs = sym (rest_next (g ∷ fs) ∙ rw (lt-ltb 0 (k + 1) (omega arith)))

  counts : (fs : List Field) (k sum : ℕ) (fault : Fault) (found : ℕ) (acc : ℕ) (f : Field) → k < length ms → sum ≡ min acc sum_cap → total ms os end (over ms os end k sum fault found f fs) ≡ rest k fault found acc (f ∷ fs)
  unfolding over
  counts [] k sum fault found acc f h c = ends k sum fault found acc f h c
  counts (g ∷ fs) k sum fault found acc f h c =
      let p = filled k sum fault found f in
      by_test (leb (length ms) (k + 1))
      (λ t. let l = leb-true (length ms) (k + 1) t in
      ap (λ (q : Pass). total ms os end (over ms os end q.field q.sum q.fault q.found g fs)) (sym (next_last ms os end p _ h l refl))
      ∙ stuck fs 0 Faults.None 0 g
      ∙ sym (too_many k sum fault found acc f h c g fs l))
      (λ n. let l = leb-false (length ms) (k + 1) n in
      ap (λ (q : Pass). total ms os end (over ms os end q.field q.sum q.fault q.found g fs)) (sym (next_one ms os end p _ _ _ _ l refl refl refl refl))
      ∙ counts fs (k + 1) _ _ _ _ g l (sum_with_lem k sum fault found acc f h c)
      ∙ goes_on k sum fault found acc f h c g fs)

  whole : (fs : List Field) → rest 0 Faults.None 0 0 fs ≡ fields_count ms os end fs
  unfolding rest fields_count count_of or_fault
  whole fs = rw (sub-zero, zero-mul, zero-add)

  total_ended : (q : Pass) → total ms os end q ≡ total ms os end (ended q)
  unfolding total sum_in sum_with fault_with found_with ticks_in fault_in surplus_in
  total_ended q = refl

  -- The pass over a text that begins at the place i ends in the count of its fields.
  pub counted : (i : ℕ) (s : List ℕ) → 1 ≤ length ms → total ms os end (run ms os end begun i s) ≡ fields_count ms os end (fields_from i s)
  counted i s n =
      let w = split ms os end i s in
      total_ended (run ms os end begun i s)
      ∙ ap (total ms os end) w.passed
      ∙ counts w.rest 0 0 Faults.None 0 0 w.first n refl
      ∙ whole (w.first ∷ w.rest)
      ∙ ap (fields_count ms os end) (sym w.fields)
