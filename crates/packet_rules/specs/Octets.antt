-- Numbers in octets, high octet first, and numbers in bits.
use Rattle.std.specs.Prelude.{ℕ, zero, suc, ◌+◌, ◌*◌, ◌/◌, ◌%◌, ◌^◌, Bool, List, [], ◌∷◌, ◌++◌, leb}
use Rattle.base.specs.Scans.{all}

-- the number whose octets are those of x and then these
unfoldable pub big_from : ℕ → List ℕ → ℕ
big_from x [] = x
big_from x (b ∷ bs) = big_from (256 * x + b) bs

-- the number that octets make, high octet first
abbrev pub big : List ℕ → ℕ
big s = big_from 0 s

-- the n low octets of x, high octet first
unfoldable pub octets : ℕ → ℕ → List ℕ
octets zero x = []
octets (suc n) x = octets n (x / 256) ++ ((x % 256) ∷ [])

abbrev pub is_octet : ℕ → Bool
is_octet b = leb b 255

-- a list of octets
abbrev pub octets_only : List ℕ → Bool
octets_only s = all is_octet s

-- n bits of x, above the k lowest
unfoldable pub bits : ℕ → ℕ → ℕ → ℕ
bits k n x = x / 2 ^ k % 2 ^ n
