-- "A SUM is Adler-32 (RFC 1950)": two sums modulo 65,521, of the bytes and 1, and of the first sum after each byte; the second stands before the first.
use Rattle.std.specs.Prelude.{ℕ, ◌+◌, ◌*◌, ◌%◌, ◌≡◌, refl, List, [], ◌∷◌}

-- the largest prime below 65,536
abbrev pub base : ℕ
base = 65_521

-- from the two sums so far on
unfoldable pub sum_from : ℕ → ℕ → List ℕ → ℕ
sum_from a b [] = b * 65_536 + a
sum_from a b (byte ∷ rest) = sum_from ((a + byte) % base) ((b + (a + byte) % base) % base) rest

abbrev pub adler : List ℕ → ℕ
adler bytes = sum_from 1 0 bytes

-- of no byte; of the byte 97: 98 twice; of 97 and 98: 196 and 98 + 196; of 255 three times: 766 and 256 + 511 + 766
examples :
    (adler [] ≡ 1) × (adler (97 ∷ []) ≡ 98 * 65_536 + 98) × (adler (97 ∷ 98 ∷ []) ≡ 294 * 65_536 + 196) × (adler (255 ∷ 255 ∷ 255 ∷ []) ≡ 1_533 * 65_536 + 766)
unfolding sum_from
examples = (refl, refl, refl, refl)
