-- The laws of `fit`, and the answers that a division gives.
-- Assumes nothing.
use Rattle.std.proofs.Common.{◌≡◌, ℕ, ◌+◌, ◌*◌, ◌/◌, ◌%◌, ◌^◌, ◌<◌, ◌≤◌, eqb, ltb, sym, ◌∙◌, le_trans, arith, ltb-false, ltb-true, le-ltb, lt-ltb, ne_eqb, eqb-true, ap, div-add-mod'}
use borrow.Author.Tests.{eqb-false}
use Rattle.std.specs.Prelude.{Option, Some, None, SomeIff}
use Rattle.quotient.specs.Quotient.{fit}
use Rattle.base.specs.Rounding.{round_down, round_up}
use Rattle.quotient.specs.Steps.{Divided}
use Rattle.base.proofs.Rounding.{down_base, down_division, down_up, up_exact, up_more}
use Rattle.base.proofs.Tests.{by_test}

pub fit_fits : (d q : ℕ) → 0 < d → q < 2 ^ 64 → fit d q ≡ Some q
unfolding fit
fit_fits d q pos h = simp (ne_eqb d 0 (λ e. omega arith), lt-ltb q (2 ^ 64) h)

unfit : (d q : ℕ) → (0 < d → 2 ^ 64 ≤ q) → fit d q ≡ None
unfolding fit
unfit d q h = by_test (eqb d 0) (λ t. simp t) (λ f. let n = eqb-false d 0 f in simp (f, le-ltb q (2 ^ 64) (h (omega arith))))

pub fit_zero : (d q : ℕ) → d ≡ 0 → fit d q ≡ None
fit_zero d q z = unfit d q (λ pos. omega arith)

pub fit_large : (d q : ℕ) → 2 ^ 64 ≤ q → fit d q ≡ None
fit_large d q h = unfit d q (λ pos. h)

-- what an answer tells
pub fits_is : (d q n : ℕ) (a : Option ℕ) → a ≡ fit d q → a ≡ Some n → n ≡ q
fits_is d q n a e f =
    by_test (eqb d 0)
    (λ z. cc (fit_zero d q (eqb-true d 0 z)))
    (λ p.
    let some = eqb-false d 0 p in
    by_test (ltb q (2 ^ 64))
    (λ t. cc (fit_fits d q (omega arith) (ltb-true q (2 ^ 64) t)))
    (λ n. cc (fit_large d q (ltb-false q (2 ^ 64) n))))

pub large_is : (d q : ℕ) (a : Option ℕ) → a ≡ fit d q → a ≡ None → 0 < d → 2 ^ 64 ≤ q
large_is d q a e f pos =
    by_test (ltb q (2 ^ 64))
    (λ t. let z : ◌≡◌ {A = ℕ} 0 1 = cc (fit_fits d q pos (ltb-true q (2 ^ 64) t)) in omega arith)
    (λ n. ltb-false q (2 ^ 64) n)

-- a sum that is tested
fit_tested : (d n : ℕ) (o : Option ℕ) → 0 < d → SomeIff o (n < 2 ^ 64) n → fit d n ≡ o
fit_tested d n (Some m) pos s = fit_fits d n pos s.0 ∙ ap Some (sym s.1)
fit_tested d n None pos s = fit_large d n (omega (arith, s))

-- an upper word of d or more
module _ (hi x d : ℕ) (upper : hi ≡ x / 2 ^ 64) (over : d ≤ hi) where
  large : 0 < d → 2 ^ 64 ≤ round_down x d
  large pos = rw (upper, div-add-mod' x (2 ^ 64)) at (down_base (2 ^ 64) hi (x % 2 ^ 64) d pos over)

  pub down_large : None ≡ fit d (round_down x d)
  down_large = sym (unfit d (round_down x d) large)

  pub up_large : None ≡ fit d (round_up x d)
  up_large = sym (unfit d (round_up x d) (λ pos. le_trans (large pos) (down_up x d pos)))

-- a quotient q and a rest r
module _ (hi lo x d q r : ℕ) (upper : hi ≡ x / 2 ^ 64) (lower : lo ≡ x % 2 ^ 64) (by : Divided (hi * 2 ^ 64 + lo) d q r) where
  pos : 0 < d
  pos = omega (arith, by.small)

  whole : q * d + r ≡ x
  whole = by.whole ∙ rw (upper, lower) (div-add-mod' x (2 ^ 64))

  pub down_fits : q < 2 ^ 64 → Some q ≡ fit d (round_down x d)
  down_fits h = sym (rw (down_division x d q r whole by.small) (fit_fits d q pos h))

  pub up_fits : r ≡ 0 → q < 2 ^ 64 → Some q ≡ fit d (round_up x d)
  up_fits z h = sym (rw (up_exact x d q pos (omega (arith, whole))) (fit_fits d q pos h))

  pub up_next : (o : Option ℕ) → (r ≡ 0 → ⊥) → SomeIff o (q + 1 < 2 ^ 64) (q + 1) → o ≡ fit d (round_up x d)
  up_next o n h = sym (rw (up_more x d q r whole (omega arith) by.small) (fit_tested d (q + 1) o pos h))
