-- Octets read as a number, bits of a word, and a number without its low octets.
use Prim.Native.Nat.{ℕ, zero, suc, ◌+◌, ◌-◌, ◌*◌, ◌/◌, ◌%◌, ◌^◌, ◌≤◌, ◌<◌}
use mathlib.Core.Path.{◌≡◌, refl, sym}
use mathlib.Core.List.{List}
use lib.ListN.{length, get_or, take, drop}
use lib.Bits.{and_mask, bit_and}
use lib.Pow.{pow_pos, pow-lt, pow-add}
use mir.Syntax.{w8, w64}
use mir.Val.{Fits}
use native.Mathlib.Nat.{mod-lt, mod-eq_of_lt, pow-le-pow_right}
use native.Mathlib.Omega.{arith}
use Rattle.base.proofs.Lists.{drop_next}
use Rattle.packet_rules.specs.Octets.{big_from, bits}
use Rattle.packet_rules.specs.Header.{word_at}
use Rattle.packet_rules.proofs.Lengths.{word_at_lem}

-- a mask of n bits
module _ (n : ℕ) (small : n < 16) where
  shifted : 1 * 2 ^ n % 2 ^ 64 ≡ 2 ^ n
  shifted = let one : 1 * 2 ^ n ≡ 2 ^ n = omega arith in rw one (mod-eq_of_lt (pow-lt {i = n} {j = 64} (omega arith)))

  pub mask_some : 1 ≤ 1 * 2 ^ n % 2 ^ 64
  mask_some = rw shifted (pow_pos n)

  pub masked : (w k : ℕ) → bit_and (w / 2 ^ k) (1 * 2 ^ n % 2 ^ 64 - 1) ≡ bits k n w
  unfolding bits
  masked w k = rw shifted (and_mask (w / 2 ^ k) n)

  pub masked_small : (w k : ℕ) → bit_and (w / 2 ^ k) (1 * 2 ^ n % 2 ^ 64 - 1) < 2 ^ n
  unfolding bits
  masked_small w k = rw (masked w k) (mod-lt (w / 2 ^ k) (pow_pos n))

-- a word of two octets
module _ (s : List ℕ) (at : ℕ) (there : at + 2 ≤ length s) where
  pub word_is : (a b : ℕ) → a ≡ get_or s at 0 → b ≡ get_or s (at + 1) 0 → 256 * a + b ≡ word_at at s
  word_is a b e f = rw (e, f) (sym (word_at_lem at s there))

-- a number of n octets, of which i were read
pub record Read (s : List ℕ) (at n i x : ℕ) : Type 0 where
  pub few : i ≤ n
  pub rest : big_from x (take (n - i) (drop (at + i) s)) ≡ big_from 0 (take n (drop at s))
  pub small : x < 256 ^ i

module _ (s : List ℕ) (at n : ℕ) where
  pub read_start : Read s at n 0 0
  read_start = let here : at + 0 ≡ at = omega arith in
      let all : n - 0 ≡ n = omega arith in
      record { few = omega arith; rest = rw (here, all); small = omega arith }

  module _ (i x : ℕ) (r : Read s at n i x) where
    small_enough : n ≤ 4 → i < n → x < 16_777_216
    small_enough h k = omega (arith, r.small, pow-le-pow_right {n = 256} (omega arith) {i = i} {j = 3} (omega arith))

    pub times_fits : n ≤ 4 → i < n → Fits w64 (256 * x)
    times_fits h k = record { fits = omega (arith, small_enough h k) }

    pub sum_fits : n ≤ 4 → i < n → ((j : ℕ) → Fits w8 (get_or s j 0)) → (b : ℕ) → b ≡ get_or s (at + i) 0 → Fits w64 (256 * x + b)
    sum_fits h k octets b e = record { fits = omega (arith, small_enough h k, octets (at + i)) }

    pub read_next : at + n ≤ length s → i < n → ((j : ℕ) → Fits w8 (get_or s j 0)) → (b : ℕ) → b ≡ get_or s (at + i) 0 → Read s at n (i + 1) (256 * x + b)
    unfolding big_from
    read_next h k octets b e =
        record {
          few = omega arith;
          rest = rw (e, next) (rw (left, drop_next s (at + i) 0 (omega arith)) at r.rest);
          small = omega (arith, r.small, pow-add 256 i 1, octets (at + i));
        }
      where
        left : n - i ≡ suc (n - (i + 1))
        left = omega arith

        next : at + (i + 1) ≡ at + i + 1
        next = omega arith

    pub read_all : n ≤ i → x ≡ big_from 0 (take n (drop at s))
    unfolding big_from
    read_all h = let none : n - i ≡ 0 = omega (arith, r.few) in rw none at r.rest

    pub read_small : n ≤ i → x < 256 ^ n
    read_small h = let all : n ≡ i = omega (arith, r.few) in rw all r.small

-- a number without its n low octets
octet_power : (n : ℕ) → 2 ^ (8 * n) ≡ 256 ^ n
octet_power zero = refl
octet_power (suc n) =
    let e : 8 * suc n ≡ 8 + 8 * n = omega arith in
    rw (e, pow-add 2 8 (8 * n), octet_power n) (omega arith)

pub above_is : (x n k : ℕ) → k ≡ n → x / 2 ^ (8 * k) ≡ x / 256 ^ n
above_is x n k e = rw (e, octet_power n)
