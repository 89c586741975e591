-- Division bit by bit: what a turn keeps, and what is known when all digits are.
-- Assumes nothing.
use Rattle.std.proofs.Common.{◌≡◌, ℕ, suc, ◌+◌, ◌-◌, ◌*◌, ◌/◌, ◌%◌, ◌^◌, ◌<◌, ◌≤◌, sym, refl, ap, ◌∙◌, mod-lt, mod-eq_of_lt, lt_of_mul-lt-mul_right, div-add-mod', mul-add, arith, pow_pos, shr_lt, w64, Fits}
use native.Mathlib.Nat.{div-eq_of_lt, div-eq_of_lt-le}
use Rattle.quotient.specs.Steps.{Divided, Raised, dividend, digit_at, lowered}
use Rattle.quotient.proofs.Word.{shifted_left, to_come, turn_at}

pub digit_lt : (w k n : ℕ) → n ≡ digit_at w k → n < 2
unfolding digit_at
digit_lt w k n is = rw is (mod-lt (w / 2 ^ k) (omega arith))

-- twice a rest and a digit
module _ (d r n : ℕ) (small : r < d) (digit : n < 2) where
  doubled_half : (r + r + n) / 2 ≡ r
  doubled_half = div-eq_of_lt-le {k = r} 2 (omega arith) (omega arith)

  doubled_lt : r + r + n < d + d
  doubled_lt = omega arith

-- where a division of X by d stands: x is the rest and, behind it, the first digit of w; the last k digits of w are those of the quotient so far
pub record Turn (d X x w k : ℕ) : Type 0 where
  pub below : x < d + d
  pub word : w < 2 ^ 64
  pub most : k ≤ 64
  pub joined : x ≡ x / 2 + x / 2 + w / 2 ^ 63
  pub so_far : dividend d (x / 2) w k ≡ X

turn_of : (d X r n w k : ℕ) → r < d → n < 2 → n ≡ w / 2 ^ 63 → w < 2 ^ 64 → k ≤ 64 → dividend d r w k ≡ X → Turn d X (r + r + n) w k
turn_of d X r n w k small digit is word most so_far =
    let half = doubled_half d r n small digit in
    record { below = doubled_lt d r n small digit; word = word; most = most; joined = rw half (omega arith); so_far = rw half so_far }

-- the first turn
module _ (d r w k : ℕ) (small : r < d) (word : w < 2 ^ 64) (most : k ≤ 64) (top : d ≤ 2 ^ 63) where
  number : Turn d (dividend d r w k) (r + r + w / 2 ^ 63) w k
  number = turn_of d (dividend d r w k) r (w / 2 ^ 63) w k small (shr_lt 1 63 word) refl word most refl

  pub first_fits : Fits w64 (r + r + w / 2 ^ 63)
  first_fits = record { fits = omega (arith, number.below) }

  pub raised_fits : Fits w64 (r + r + w / 2 ^ 63 + (2 ^ 63 - d))
  raised_fits = record { fits = omega (arith, number.below) }

  back : lowered d (r + r + w / 2 ^ 63 + (2 ^ 63 - d)) ≡ r + r + w / 2 ^ 63
  unfolding lowered
  back = omega arith

  pub first_raised : Raised d (r + r + w / 2 ^ 63 + (2 ^ 63 - d))
  first_raised = record { exact = rw back (omega arith); below = rw back number.below }

  pub first_turn : Turn d (dividend d r w k) (lowered d (r + r + w / 2 ^ 63 + (2 ^ 63 - d))) w k
  first_turn = rw back number

-- the next turn: q₁ is the next digit of the quotient, n of the dividend
module _ (d X x w k q₁ x₁ n : ℕ) (turn : Turn d X x w k) (l : n < 2) (by : Divided (x + x + n) (d + d) q₁ x₁) where
  digit : q₁ < 2
  digit = lt_of_mul-lt-mul_right (d + d) (omega (arith, by.whole, turn.below))

  moved_word : w * 2 ^ 1 % 2 ^ 64 ≡ w % 2 ^ 63 * 2
  moved_word = shifted_left w 63 1

  next_word_lt : w * 2 ^ 1 % 2 ^ 64 + q₁ < 2 ^ 64
  next_word_lt = omega (arith, moved_word, mod-lt w (pow_pos 63), digit)

  pub next_word_fits : Fits w64 (w * 2 ^ 1 % 2 ^ 64 + q₁)
  next_word_fits = record { fits = next_word_lt }

  module _ (is : n ≡ digit_at w 62) where
    -- x itself by d
    halved : Divided x d q₁ (x₁ / 2) × (x₁ ≡ x₁ / 2 + x₁ / 2 + n)
    halved =
        let e = rw (mul-add q₁ d d) at by.whole in
        let x₁-is : x₁ ≡ x₁ / 2 + x₁ / 2 + n = omega (arith, div-add-mod' x₁ 2, mod-lt x₁ {m = 2} (omega arith)) in
        (record { whole = omega arith; small = omega (arith, by.small) }, x₁-is)

    leaves : n ≡ (w * 2 ^ 1 % 2 ^ 64 + q₁) / 2 ^ 63
    unfolding digit_at
    leaves = rw moved_word (is ∙ sym (to_come w q₁ 1 62 digit))

    module _ (more : k < 64) where
      so_far : dividend d (x₁ / 2) (w * 2 ^ 1 % 2 ^ 64 + q₁) (k + 1) ≡ X
      unfolding dividend
      so_far =
          let j = 63 - k in
          let e : j + k ≡ 63 = omega arith in
          let f : k + j ≡ 63 = omega arith in
          let g : suc j ≡ 64 - k = omega arith in
          let h : 64 - (k + 1) ≡ j = omega arith in
          let i : k + 1 ≡ suc k = omega arith in
          let at_j = turn_at w q₁ j k digit d X (x / 2) (x₁ / 2) (rw g turn.so_far) (rw f (halved.0.whole ∙ turn.joined)) in
          rw moved_word (rw h (rw i (rw e at at_j)))

      pub next_turn : Turn d X x₁ (w * 2 ^ 1 % 2 ^ 64 + q₁) (k + 1)
      next_turn =
          rw halved.1
          (turn_of d X (x₁ / 2) n (w * 2 ^ 1 % 2 ^ 64 + q₁) (k + 1) halved.0.small l leaves next_word_lt (omega arith) so_far)

-- after the last turn
module _ (d X y w k : ℕ) (raised : Raised d y) (top : d ≤ 2 ^ 63) (turn : Turn d X (lowered d y) w k) (end : 64 ≤ k) where
  number_back : y - (2 ^ 63 - d) ≡ lowered d y
  number_back = omega (arith, raised.exact)

  pub last_turn : Divided X d w ((y - (2 ^ 63 - d)) / 2 ^ 1)
  unfolding dividend
  last_turn =
      let x = lowered d y in
      let full : k ≡ 64 = omega (arith, turn.most) in
      let same_word = mod-eq_of_lt turn.word in
      rw number_back
      (record { whole = omega (arith, rw full at turn.so_far, div-eq_of_lt turn.word, ap (λ (z : ℕ). z * d) same_word); small = omega (arith, turn.below, div-add-mod' x 2) })
