-- Scans over the numbers below a bound: all, some, the first, the last, a sum, a product over a list.
-- A table is lists of one length, so a rule on its rows is a scan below that length.
use Rattle.std.specs.Prelude.{ℕ, zero, suc, ◌+◌, ◌*◌, Bool, true, false, not, ◌&&◌, ◌||◌, cond, List, [], ◌∷◌, eqb}
use Rattle.std.proofs.Math.Option.{Option, none, some}

-- p holds of every number below n
unfoldable pub all_below : (ℕ → Bool) → ℕ → Bool
all_below p zero = true
all_below p (suc n) = all_below p n && p n

-- p holds of some number below n
unfoldable pub some_below : (ℕ → Bool) → ℕ → Bool
some_below p zero = false
some_below p (suc n) = some_below p n || p n

-- an index already found, and otherwise n where the test holds
unfoldable pub or_else : Option ℕ → Bool → ℕ → Option ℕ
or_else (some i) t n = some i
or_else none true n = some n
or_else none false n = none

-- the first number below n of which p holds
unfoldable pub first_below : (ℕ → Bool) → ℕ → Option ℕ
first_below p zero = none
first_below p (suc n) = or_else (first_below p n) (p n) n

-- the first number below n of which p does not hold
unfoldable pub first_not : (ℕ → Bool) → ℕ → Option ℕ
first_not p n = first_below (λ i. not (p i)) n

-- nothing is found
abbrev pub is_none : Option ℕ → Bool
is_none none = true
is_none (some i) = false

-- the last number below n of which p holds
unfoldable pub last_below : (ℕ → Bool) → ℕ → Option ℕ
last_below p zero = none
last_below p (suc n) = cond (p n) (some n) (last_below p n)

-- the greatest number below n
unfoldable pub greatest_below : ℕ → Option ℕ
greatest_below zero = none
greatest_below (suc n) = some n

-- f 0 + .. + f (n - 1)
unfoldable pub sum_below : (ℕ → ℕ) → ℕ → ℕ
sum_below f zero = 0
sum_below f (suc n) = sum_below f n + f n

-- every test of a list holds
unfoldable pub all_of : List Bool → Bool
all_of [] = true
all_of (t ∷ ts) = t && all_of ts

-- p holds of every element
unfoldable pub all : (ℕ → Bool) → List ℕ → Bool
all p [] = true
all p (x ∷ xs) = p x && all p xs

-- the product of a list, 1 where it is empty
unfoldable pub product : List ℕ → ℕ
product [] = 1
product (x ∷ xs) = x * product xs

-- k is one of ks
unfoldable pub among : ℕ → List ℕ → Bool
among k [] = false
among k (j ∷ js) = eqb k j || among k js
