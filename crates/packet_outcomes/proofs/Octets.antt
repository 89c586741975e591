-- Numbers in octets: how many there are, that each is one, and that they make the number again.
use Prim.Native.Nat.{ℕ, zero, suc, ◌+◌, ◌*◌, ◌/◌, ◌%◌, ◌^◌, ◌<◌}
use mathlib.Core.Path.{◌≡◌, refl, ◌∙◌}
use mathlib.Core.Bool.{true}
use mathlib.Core.List.{List, [], ◌∷◌, ◌++◌}
use lib.ListN.{length, length-append}
use lib.Arith.{mod-mul}
use borrow.Author.Tests.{le-leb}
use native.Mathlib.Nat.{pow-suc, one-le-pow, mod-eq_of_lt, mod-one}
use native.Mathlib.Omega.{arith}
use Rattle.base.specs.Scans.{all}
use Rattle.base.proofs.Lists.{all_append, all_cons}
use Rattle.packet_rules.specs.Octets.{big_from, big, octets}
use Rattle.packet_rules.specs.Octets.{is_octet}

pub power_pos : (n : ℕ) → 0 < 256 ^ n
power_pos n = omega (arith, one-le-pow n 256 (omega arith))

pub length_octets : (n x : ℕ) → length (octets n x) ≡ n
unfolding octets
length_octets zero x = refl
length_octets (suc n) x = rw (length-append, length_octets n (x / 256)) (omega arith)

pub all_octets : (n x : ℕ) → all is_octet (octets n x) ≡ true
unfolding octets all
all_octets zero x = refl
all_octets (suc n) x = all_append is_octet (octets n (x / 256)) ((x % 256) ∷ []) (all_octets n (x / 256)) (all_cons is_octet (x % 256) [] (le-leb (x % 256) 255 (omega arith)) refl)

big_append : (x : ℕ) (s t : List ℕ) → big_from x (s ++ t) ≡ big_from (big_from x s) t
unfolding big_from
big_append x [] t = refl
big_append x (b ∷ s) t = big_append (256 * x + b) s t

pub big_octets : (n x : ℕ) → big (octets n x) ≡ x % 256 ^ n
unfolding octets big_from
big_octets zero x = rw mod-one
big_octets (suc n) x =
    rw (big_append 0 (octets n (x / 256)), big_octets n (x / 256), pow-suc 256 n) (omega (arith, mod-mul x {m = 256 ^ n} {c = 256} (power_pos n) (omega arith)))

-- a number that so many octets hold
pub big_octets_same : (n x : ℕ) → x < 256 ^ n → big (octets n x) ≡ x
big_octets_same n x h = big_octets n x ∙ mod-eq_of_lt h
