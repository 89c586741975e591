-- What the code keeps of a run of digits, and the value that it gives.
use Rattle.std.specs.Prelude.{ℕ, ◌+◌, ◌-◌, ◌*◌, ◌^◌, ◌≤◌, ◌<◌, ◌≡◌, Bool, ◌&&◌, cond, List, [], ◌∷◌, eqb, ltb, get_or, Option, Some, None}
use Rattle.rules.specs.Text.{is_digit}
use Rattle.kernel_rules.specs.declared.Number.{Number}
use Rattle.kernel_rules.specs.declared.Number.TheVariants.{Inexact}
use Rattle.kernel_rules.specs.Numbers.{is_sign, is_minus, after_one, quotient}
use Rattle.kernel_numbers.specs.declared.Digits.{Digits}

abbrev pub digits : ℕ → ℕ → Digits
digits h z = record { head = h; zeros = z }

abbrev pub zeros_of : Option Digits → ℕ
zeros_of None = 0
zeros_of (Some k) = k.zeros

-- a digit, where the number so far has no room for it
unfoldable pub beyond : ℕ → ℕ → ℕ → Option Digits
beyond h z d = cond (eqb d 0) (Some (digits h (z + 1))) None

unfoldable pub with_digit : Option Digits → ℕ → Option Digits
with_digit None d = None
with_digit (Some k) d =
    cond (eqb k.zeros 0 && ltb (k.head * 10 + d) (2 ^ 64)) (Some (digits (k.head * 10 + d) 0)) (beyond k.head k.zeros d)

-- the digits at the front of s, as more of a number
unfoldable pub digits_from : Option Digits → List ℕ → Option Digits
digits_from k [] = k
digits_from k (b ∷ s) = cond (is_digit b) (digits_from (with_digit k (b - 48)) s) k

-- So many digits have room in 64 bits. So of a number in few bytes, what is kept before place i is all of it.
abbrev pub few : ℕ
few = 19

abbrev pub Fitting : ℕ → ℕ → Option Digits → Type 0
Fitting len i k = len ≤ few → (h : ℕ) × (k ≡ Some (digits h 0)) × (h < 10 ^ i)

-- an exponent as large as this, or larger, gives what this one gives
abbrev pub power_cap : ℕ
power_cap = 1000

-- the exponent's sign by the places d and e, where the digits and where the letter end
unfoldable pub power_sign_after : List ℕ → ℕ → ℕ → ℕ
power_sign_after s d e = cond (ltb d e) (after_one is_sign s e) e

unfoldable pub minus_after : List ℕ → ℕ → ℕ → Bool
minus_after s d e = ltb d e && is_minus (get_or s e 0)

-- the number that is kept, times 10^up / 10^down
unfoldable pub value_of : Bool → Option Digits → ℕ → ℕ → Number
value_of minus None up down = Inexact
value_of minus (Some k) up down = quotient minus (k.head * 10 ^ ((up + k.zeros) - down)) (10 ^ (down - (up + k.zeros)))
