-- How many digits a number has, by powers of ten; and its last digits, written from the right.
use Prim.Native.Nat.{ℕ, zero, suc, ◌+◌, ◌-◌, ◌/◌, ◌%◌, ◌^◌, ◌≤◌, ◌<◌}
use mathlib.Core.Path.{◌≡◌, refl, ◌∙◌}
use mathlib.Core.List.{List, []}
use lib.Dec.{lit<}
use lib.ListN.{length, set}
use lib.Pow.{pow-add}
use native.Mathlib.Nat.{one-le-pow}
use native.Mathlib.Omega.{arith}
use Rattle.rules.specs.Print.{digits_up_to, digit_count, last_digits}
use Rattle.roundtrip.proofs.Digits.{digits_enough, digits_needed, digits_below, pow_order, last_length}
use Rattle.decimal.specs.Writing.{Room, Written}
use Rattle.decimal.proofs.RightToLeft.{Left, left_all, left_byte, left_nothing}

pub digit_count_is : (k x : ℕ) → 10 ^ k ≤ x → x < 10 ^ (k + 1) → digit_count x ≡ k + 1
digit_count_is k x h l =
    let low : k < digit_count x = pow_order k (digit_count x) (omega (arith, digits_enough x)) in
    let high : digit_count x < k + 2 = pow_order (digit_count x) (k + 2) (omega (arith, pow-add 10 k 1, pow-add 10 k 2, digits_needed x (omega (arith, one-le-pow k 10 (lit< tt))))) in
    omega arith

pub digit_count_zero : digit_count 0 ≡ 1
unfolding digit_count digits_up_to
digit_count_zero = refl

pub digit_count_small : (x : ℕ) → x < 10 → digit_count x ≡ 1
digit_count_small zero h = digit_count_zero
digit_count_small (suc x) h = digit_count_is 0 (suc x) (omega arith) h

-- the digits of a number and of its ten-thousandth
pub digit_count_four : (x : ℕ) → 10_000 ≤ x → digit_count x ≡ digit_count (x / 10_000) + 4
digit_count_four x h =
    let d = digit_count (x / 10_000) in
    let sum : d + 3 + 1 ≡ d + 4 = omega arith in
    digit_count_is (d + 3) x (omega (arith, pow-add 10 d 3, digits_needed (x / 10_000) (omega arith))) (rw sum (omega (arith, pow-add 10 d 4, digits_enough (x / 10_000)))) ∙ sum

-- a 64-bit number has at most 20 digits
pub digit_count_word : (x : ℕ) → x < 2 ^ 64 → digit_count x ≤ 20
digit_count_word x h = digits_below 20 x (omega arith) (omega arith)

-- the digits of x from index start to index at are left to write
module _ (s : List ℕ) (x start end at : ℕ) (entry buffer : List ℕ) (l : Left s (last_digits (at - start) x) end at entry buffer) where
  pub digit_next : (d : ℕ) → d ≡ 48 + x % 10 → start < at → Left s (last_digits (at - 1 - start) (x / 10)) end (at - 1) entry (set buffer (at - 1) d)
  unfolding last_digits
  digit_next d e h =
      let w : at - start ≡ suc (at - 1 - start) = omega arith in
      left_byte s (last_digits (at - 1 - start) (x / 10)) d end at entry buffer (rw (w, ← e) at l)

pub digits_room : (w x end : ℕ) (b : List ℕ) → w ≤ end → end ≤ length b → Room (last_digits w x) end b
digits_room w x end b h k = record { before = omega (arith, last_length w x); within = k }

module _ (w x end : ℕ) (b : List ℕ) (r : Room (last_digits w x) end b) where
  pub room_width : w ≤ end
  room_width = omega (arith, last_length w x)

  pub digits_all : Left (last_digits w x) (last_digits (end - (end - w)) x) end end b b
  digits_all = let e : end - (end - w) ≡ w = omega (arith, room_width) in rw e (left_all (last_digits w x) end b r)

  -- all of them are written
  pub digits_done : (rest at : ℕ) (buffer : List ℕ) → Left (last_digits w x) (last_digits (at - (end - w)) rest) end at b buffer → at ≤ end - w → Written (last_digits w x) end (end - w) b buffer
  unfolding last_digits
  digits_done rest at buffer l h =
      let none : at - (end - w) ≡ 0 = omega arith in
      let t : Left (last_digits w x) [] end at b buffer = rw none at l in
      let start : at ≡ end - w = omega (arith, t.ends, last_length w x, room_width) in
      rw start at (left_nothing (last_digits w x) end at b buffer t)
