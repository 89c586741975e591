-- Request 5: "byte slices, one a list, of eight-byte numbers, low byte first (times two's complement)".
use Rattle.std.specs.Prelude.{ℕ, zero, suc, ◌+◌, ◌-◌, ◌*◌, ◌/◌, ◌%◌, ◌^◌, cond, List, [], ◌∷◌, map, ltb, eqb, ℤ, pos, negsuc, length, take, drop}

-- "low byte first": the number that bytes make
unfoldable pub little : List ℕ → ℕ
little [] = 0
little (b ∷ bs) = b + 256 * little bs

-- how many numbers a slice has; "A slice not in eights" has none, so it is refused as its table is without rows
unfoldable pub numbers_in : List ℕ → ℕ
numbers_in s = cond (eqb (length s % 8) 0) (length s / 8) 0

-- the first k numbers of a slice
unfoldable pub eights : ℕ → List ℕ → List ℕ
eights zero s = []
eights (suc k) s = little (take 8 s) ∷ eights k (drop 8 s)

-- the numbers of a slice
unfoldable pub numbers : List ℕ → List ℕ
numbers s = eights (numbers_in s) s

-- "two's complement": the signed number of 64 bits, and the 64 bits of a signed number
unfoldable pub signed_of : ℕ → ℤ
signed_of w = cond (ltb w (2 ^ 63)) (pos w) (negsuc (2 ^ 64 - 1 - w))

unfoldable pub unsigned_of : ℤ → ℕ
unsigned_of (pos n) = n
unsigned_of (negsuc n) = 2 ^ 64 - 1 - n

-- the times of a slice
unfoldable pub times : List ℕ → List ℤ
times s = map signed_of (numbers s)

-- the k low bytes of a number, "low byte first"
unfoldable pub bytes_of : ℕ → ℕ → List ℕ
bytes_of zero w = []
bytes_of (suc k) w = w % 256 ∷ bytes_of k (w / 256)

-- a time as its eight bytes
unfoldable pub time_bytes : ℤ → List ℕ
time_bytes t = bytes_of 8 (unsigned_of t)
