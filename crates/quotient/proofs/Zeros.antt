-- Where the digits of a quotient start: the lengths of the two numbers tell how many zeros stand in front.
-- Assumes nothing.
use Rattle.std.proofs.Common.{◌≡◌, ℕ, zero, suc, ◌+◌, ◌-◌, ◌*◌, ◌/◌, ◌%◌, ◌^◌, ◌<◌, ◌≤◌, max, ap, lt_of_lt_of_le, mul-le-mul_right, mod-eq_of_lt, mul_assoc, add-mul, lt_of_mul-lt-mul_right, div-add-mod', zero-add, zero-mul, div-one, arith, pow_mono, pow-add, w64, Fits}
use native.Mathlib.Nat.{pow-succ', mod-one, mul-mod_left}
use lib.Arith.{digits_lt}
use lib.Count.{count_leading_zeros, leading_length}
use lib.Pow.{shl-shr}
use Rattle.quotient.specs.Steps.{Length, UnderWay, dividend}
use Rattle.quotient.proofs.Word.{shifted_left}

-- a power of 2 is 1 or even
even : (m x : ℕ) → 2 ^ m ≤ 2 * x + 1 → 2 ^ m ≤ max 1 (2 * x)
even zero x h = omega arith
even (suc m) x h = omega (arith, pow-succ' 2 m)

pub bit_length : (x : ℕ) → x < 2 ^ 64 → Length 64 x (64 - count_leading_zeros 64 x)
bit_length x h =
    let top = leading_length 64 x h in
    let e : 64 - count_leading_zeros 64 x ≡ top.0 = omega (arith, top.1) in
    rw e (record { enough = top.2; needed = even top.0 x top.3; most = omega (arith, top.1) })

-- the first digit of a number that is not 0
first_digit : (w m x : ℕ) → Length w x m → 0 < x → (0 < m) × (2 ^ (m - 1) ≤ x)
first_digit w zero x ln pos = let e = ln.enough in omega arith
first_digit w (suc m) x ln pos =
    let e : suc m - 1 ≡ m = omega arith in
    (omega arith, rw e (omega (arith, ln.needed, pow-succ' 2 m)))

-- two words of w digits each: how long they are together
module _ (w hi lo n : ℕ) where
  pub lower_length : hi ≡ 0 → Length w lo n → Length (w + w) (hi * 2 ^ w + lo) n
  lower_length z ln =
      let e : hi * 2 ^ w + lo ≡ lo = omega (arith, ap (λ (x : ℕ). x * 2 ^ w) z, zero-mul (2 ^ w)) in
      rw e (record { enough = ln.enough; needed = ln.needed; most = omega (arith, ln.most) })

  pub upper_length : (hi ≡ 0 → ⊥) → lo < 2 ^ w → Length w hi n → Length (w + w) (hi * 2 ^ w + lo) (n + w)
  upper_length some l ln =
      let power : 2 ^ (n + w) ≡ 2 ^ n * 2 ^ w = pow-add 2 n w in
      let x = hi * 2 ^ w + lo in
      let twice : 2 ^ n * 2 ^ w ≤ 2 * hi * 2 ^ w = mul-le-mul_right {m = 2 ^ n} {n = 2 * hi} (2 ^ w) (omega (arith, ln.needed)) in
      record { enough = rw power (digits_lt ln.enough l); needed = rw power (omega (arith, twice, mul_assoc 2 hi (2 ^ w))); most = omega (arith, ln.most) }

-- two words of z + c digits each, of which the first z are passed over
module _ (hi lo z c : ℕ) where
  shifted : (hi * 2 ^ z + lo / 2 ^ c) * 2 ^ c + lo % 2 ^ c ≡ hi * 2 ^ (z + c) + lo
  shifted =
      omega (arith, add-mul (hi * 2 ^ z) (lo / 2 ^ c) (2 ^ c), mul_assoc hi (2 ^ z) (2 ^ c), ap (λ (x : ℕ). hi * x) (pow-add 2 z c), div-add-mod' lo (2 ^ c))

  -- a number below 2^(p + c)
  shifted_lt : (p : ℕ) → hi * 2 ^ (z + c) + lo < 2 ^ (p + c) → hi * 2 ^ z + lo / 2 ^ c < 2 ^ p
  shifted_lt p h = lt_of_mul-lt-mul_right (2 ^ c) (omega (arith, shifted, rw (pow-add 2 p c) at h))

pub no_zeros : (hi lo d : ℕ) → hi < d → UnderWay (hi * 2 ^ 64 + lo) d hi lo 0
unfolding dividend
no_zeros hi lo d less = record { whole = omega (arith, ap (λ (x : ℕ). x * d) (mod-one lo), div-one lo); small = less; most = omega arith }

-- the number of two words has n digits, d has m
module _ (hi lo d n m : ℕ) (less : hi < d) (top : d ≤ 2 ^ 63) (ln : Length 128 (hi * 2 ^ 64 + lo) n) (lm : Length 64 d m) where
  first : (0 < m) × (2 ^ (m - 1) ≤ d)
  first = first_digit 64 m d lm (omega arith)

  -- d is longer: the quotient is 0
  pub all_zeros : n < m → UnderWay (hi * 2 ^ 64 + lo) d lo 0 64
  unfolding dividend
  all_zeros longer =
      let short : 2 ^ n ≤ 2 ^ (m - 1) = pow_mono (omega arith) in
      let below : hi * 2 ^ 64 + lo < d = omega (arith, first.1, ln.enough) in
      record { whole = omega arith; small = omega arith; most = omega arith }

  -- else the first m + 63 - n digits of the quotient are 0
  module _ (as_long : m ≤ n) (gap : n < m + 63) where
    abbrev z : ℕ
    z = m + 63 - n

    abbrev c : ℕ
    c = 64 - z

    front : hi * 2 ^ z + lo / 2 ^ c < d
    front =
        let e : z + c ≡ 64 = omega arith in
        let f : m - 1 + c ≡ n = omega (arith, first.0) in
        lt_of_lt_of_le (shifted_lt hi lo z c (m - 1) (rw e (rw f ln.enough))) first.1

    unwrapped : hi * 2 ^ z % 2 ^ 64 ≡ hi * 2 ^ z
    unwrapped = mod-eq_of_lt (omega (arith, front))

    whole : dividend d (hi * 2 ^ z + lo / 2 ^ c) (lo * 2 ^ z % 2 ^ 64) z ≡ hi * 2 ^ 64 + lo
    unfolding dividend
    whole =
        let e : z + c ≡ 64 = omega arith in
        let f : c + z ≡ 64 = omega arith in
        let word : lo * 2 ^ z % 2 ^ 64 ≡ lo % 2 ^ c * 2 ^ z = rw f at (shifted_left lo c z) in
        rw word (rw (mul-mod_left (lo % 2 ^ c) (2 ^ z)) (rw (shl-shr (lo % 2 ^ c) z) (rw (zero-mul d) (rw (zero-add (hi * 2 ^ z + lo / 2 ^ c)) (rw e at (shifted hi lo z c))))))

    pub some_zeros : UnderWay (hi * 2 ^ 64 + lo) d (hi * 2 ^ (m + 63 - n) % 2 ^ 64 + lo / 2 ^ (64 - (m + 63 - n))) (lo * 2 ^ (m + 63 - n) % 2 ^ 64) (m + 63 - n)
    some_zeros = rw unwrapped (record { whole = whole; small = front; most = omega arith })

    pub rest_fits : Fits w64 (hi * 2 ^ (m + 63 - n) % 2 ^ 64 + lo / 2 ^ (64 - (m + 63 - n)))
    rest_fits = record { fits = omega (arith, some_zeros.small) }
