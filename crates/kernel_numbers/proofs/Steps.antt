-- The code's steps: one law for each way out.
use Prim.Native.Nat.{ℕ, ◌+◌, ◌-◌, ◌*◌, ◌^◌, ◌≤◌, ◌<◌, min}
use mathlib.Core.Path.{◌≡◌, sym, ◌∙◌}
use mathlib.Core.Bool.{Bool, true, false, ◌&&◌, cond}
use mathlib.Core.List.{List, [], ◌∷◌}
use lib.Dec.{eqb, ltb, leb}
use lib.ListN.{get_or-eq_default, length, drop, get_or, drop_of_length-le}
use native.Mathlib.Nat.{add-zero}
use native.Mathlib.Omega.{arith}
use borrow.Author.Tests.{lt-ltb, le-ltb, leb-true, eq-eqb, ne_eqb}
use Rattle.base.proofs.Tests.{by_test, and_first, and_second}
use Rattle.base.proofs.Lists.{drop_next}
use Rattle.rules.specs.Text.{is_digit}
use Rattle.kernel_rules.specs.declared.Number.{Number}
use Rattle.kernel_rules.specs.Lines.{span}
use Rattle.kernel_rules.specs.Numbers.{after_one, after_digits, followed, quotient}
use Rattle.std.specs.Prelude.{Option, Some, None, SomeIff}
use Rattle.kernel_numbers.specs.declared.Digits.{Digits}
use Rattle.kernel_numbers.specs.Pass.{digits, zeros_of, beyond, with_digit, digits_from, power_cap, value_of}

-- a byte of a kind
module _ (b : ℕ) where
  pub digit_at_least : (t : Bool) → t ≡ is_digit b → t ≡ true → 48 ≤ b
  digit_at_least t e h = leb-true 48 b (and_first (leb 48 b) (leb b 57) (sym e ∙ h))

  pub digit_at_most : (t : Bool) → t ≡ is_digit b → t ≡ true → b - 48 ≤ 9
  digit_at_most t e h = omega (arith, leb-true b 57 (and_second (leb 48 b) (leb b 57) (sym e ∙ h)))

pub byte_none : (s : List ℕ) (at : ℕ) → length s ≤ at → 0 ≡ get_or s at 0
byte_none s at h = sym (get_or-eq_default s 0 h)

-- one byte of a kind, or none
module _ (p : ℕ → Bool) (s : List ℕ) (at : ℕ) where
  pub one_yes : (t : Bool) → t ≡ p (get_or s at 0) → t ≡ true → at + 1 ≡ after_one p s at
  unfolding after_one
  one_yes t e h = rw (← e, h)

  pub one_no : (t : Bool) → t ≡ p (get_or s at 0) → t ≡ false → at ≡ after_one p s at
  unfolding after_one
  one_no t e h = rw (← e, h)

  pub one_end : p 0 ≡ false → length s ≤ at → at ≡ after_one p s at
  unfolding after_one
  one_end z h = rw (← byte_none s at h, z)

-- one digit more; o: the digit behind the head, where it has room
module _ (D : Option Digits) (d : ℕ) where
  pub digit_none : D ≡ None → None ≡ with_digit D d
  unfolding with_digit
  digit_none e = rw e

  module _ (k : Digits) (e : D ≡ Some k) where
    pub digit_behind : (r : Option Digits) → (k.zeros ≡ 0 → ⊥) → r ≡ beyond k.head k.zeros d → r ≡ with_digit D d
    unfolding with_digit
    digit_behind r z i = i ∙ rw (e, ne_eqb k.zeros 0 z)

    pub digit_in : (o : Option ℕ) (x : ℕ) → (k.zeros ≡ 0) → SomeIff o (k.head * 10 + d < 2 ^ 64) (k.head * 10 + d) → o ≡ Some x → Some (digits x 0) ≡ with_digit D d
    unfolding with_digit
    digit_in o x z h i = let f = rw i at h in rw (e, z, f.1, lt-ltb (k.head * 10 + d) (2 ^ 64) f.0)

    pub digit_full : (o : Option ℕ) (r : Option Digits) → (k.zeros ≡ 0) → SomeIff o (k.head * 10 + d < 2 ^ 64) (k.head * 10 + d) → o ≡ None → r ≡ beyond k.head k.zeros d → r ≡ with_digit D d
    unfolding with_digit
    digit_full o r z h i j = let f = rw i at h in j ∙ rw (e, eq-eqb k.zeros 0 z, le-ltb (k.head * 10 + d) (2 ^ 64) (above f))
      where
        above : (k.head * 10 + d < 2 ^ 64 → ⊥) → 2 ^ 64 ≤ k.head * 10 + d
        above f = omega (arith, f)

-- a digit adds at most one zero
pub digit_zeros : (D : Option Digits) (d : ℕ) (r : Option Digits) (at : ℕ) → r ≡ with_digit D d → zeros_of D ≤ at → zeros_of r ≤ at + 1
unfolding with_digit beyond
digit_zeros None d r at e h = rw e (omega arith)
digit_zeros (Some k) d r at e h =
    rw e
    (by_test (eqb k.zeros 0 && ltb (k.head * 10 + d) (2 ^ 64)) (λ t. rw t (omega arith))
    (λ g. rw g (by_test (eqb d 0) (λ t. rw t (omega arith)) (λ i. rw i (omega arith)))))

-- a cap before the last digits is as one behind them
capped_same : (s : List ℕ) (x y : ℕ) → min x power_cap ≡ min y power_cap → min (followed x s) power_cap ≡ min (followed y s) power_cap
unfolding followed
capped_same [] x y e = e
capped_same (b ∷ s) x y e =
    by_test (is_digit b) (λ t. rw t (capped_same s (x * 10 + (b - 48)) (y * 10 + (b - 48)) (omega arith))) (λ f. rw f e)

-- a walk along digits
module _ (s : List ℕ) (at : ℕ) where
  module _ (t : Bool) (l : at < length s) (e : t ≡ is_digit (get_or s at 0)) where
    pub digits_next : (A : ℕ) → t ≡ true → A ≡ after_digits s at → A ≡ after_digits s (at + 1)
    unfolding after_digits span
    digits_next A n i = i ∙ rw (drop_next s at 0 l, ← e, n) (omega arith)

    pub digits_stop : (A : ℕ) → t ≡ false → A ≡ after_digits s at → at ≡ A
    unfolding after_digits span
    digits_stop A n i = sym (i ∙ rw (drop_next s at 0 l, ← e, n) (omega arith))

    pub run_next : (R k q : Option Digits) → t ≡ true → q ≡ with_digit k (get_or s at 0 - 48) → R ≡ digits_from k (drop at s) → R ≡ digits_from q (drop (at + 1) s)
    unfolding digits_from
    run_next R k q n p i = i ∙ rw (drop_next s at 0 l, ← e, n, p)

    pub run_stop : (R k : Option Digits) → t ≡ false → R ≡ digits_from k (drop at s) → k ≡ R
    unfolding digits_from
    run_stop R k n i = sym (i ∙ rw (drop_next s at 0 l, ← e, n))

    pub power_next : (R x y : ℕ) → t ≡ true → y ≡ min (x * 10 + (get_or s at 0 - 48)) power_cap → R ≡ min (followed x (drop at s)) power_cap → R ≡ min (followed y (drop (at + 1) s)) power_cap
    unfolding followed
    power_next R x y n p i = i ∙ rw (drop_next s at 0 l, ← e, n) (capped_same (drop (at + 1) s) (x * 10 + (get_or s at 0 - 48)) y (omega arith))

    pub power_stop : (R x : ℕ) → t ≡ false → x ≤ power_cap → R ≡ min (followed x (drop at s)) power_cap → x ≡ R
    unfolding followed
    power_stop R x n h i = sym (i ∙ rw (drop_next s at 0 l, ← e, n) (omega arith))

  module _ (l : length s ≤ at) where
    pub digits_end : (A : ℕ) → A ≡ after_digits s at → at ≡ A
    unfolding after_digits span
    digits_end A i = sym (i ∙ rw (drop_of_length-le s l) (omega arith))

    pub run_end : (R k : Option Digits) → R ≡ digits_from k (drop at s) → k ≡ R
    unfolding digits_from
    run_end R k i = sym (i ∙ rw (drop_of_length-le s l))

    pub power_end : (R x : ℕ) → x ≤ power_cap → R ≡ min (followed x (drop at s)) power_cap → x ≡ R
    unfolding followed
    power_end R x h i = sym (i ∙ rw (drop_of_length-le s l) (omega arith))

module _ (k : Option Digits) (scale places x : ℕ) (minus down : Bool) (r : Number) where
  pub shift_down : down ≡ true → r ≡ value_of minus k scale (places + x) → r ≡ value_of minus k (scale + cond down 0 x) (places + cond down x 0)
  shift_down t e = rw (t, add-zero scale) e

  pub shift_up : down ≡ false → r ≡ value_of minus k (scale + x) places → r ≡ value_of minus k (scale + cond down 0 x) (places + cond down x 0)
  shift_up t e = rw (t, add-zero places) e

-- the head's value
module _ (minus : Bool) (head up down : ℕ) (r : Number) where
  pub head_down : up < down → r ≡ quotient minus head (10 ^ (down - up)) → r ≡ quotient minus (head * 10 ^ (up - down)) (10 ^ (down - up))
  head_down l i = i ∙ rw (none, one)
    where
      none : up - down ≡ 0
      none = omega arith

      one : head * 1 ≡ head
      one = omega arith

  pub head_up : down ≤ up → r ≡ quotient minus (head * 10 ^ (up - down)) 1 → r ≡ quotient minus (head * 10 ^ (up - down)) (10 ^ (down - up))
  head_up l i = i ∙ rw none
    where
      none : down - up ≡ 0
      none = omega arith
