-- NUMBER: [+-] digits [. digits] or [+-] . digits, then, if any, one of E e D d, [+-], digits. Its value in units of 10^-k.
use Rattle.std.specs.Prelude.{ℕ, ◌+◌, ◌-◌, ◌*◌, ◌/◌, ◌%◌, ◌^◌, min, Bool, true, false, ◌&&◌, ◌||◌, cond, List, [], ◌∷◌, leb, eqb, ltb, length, drop, get_or}
use Rattle.rules.specs.Text.{is_digit}
use Rattle.kernel_rules.specs.declared.Number.{Number}
use Rattle.kernel_rules.specs.declared.Number.TheVariants.{Malformed, Inexact, Plus, Minus}
use Rattle.kernel_rules.specs.Lines.{span, longest_line}

abbrev pub is_minus : ℕ → Bool
is_minus b = eqb b 45

abbrev pub is_sign : ℕ → Bool
is_sign b = eqb b 43 || eqb b 45

abbrev pub is_point : ℕ → Bool
is_point b = eqb b 46

-- E e D d
abbrev pub is_letter : ℕ → Bool
is_letter b = eqb b 69 || eqb b 101 || eqb b 68 || eqb b 100

-- the place after one byte of a kind, if it stands at i
unfoldable pub after_one : (ℕ → Bool) → List ℕ → ℕ → ℕ
after_one p s i = cond (p (get_or s i 0)) (i + 1) i

-- the place after the digits that stand from i on
unfoldable pub after_digits : List ℕ → ℕ → ℕ
after_digits s i = i + span is_digit (drop i s)

-- Where each part of a number ends: sign, whole digits, point, digits behind it, letter, the exponent's sign, its digits.
unfoldable pub sign_end : List ℕ → ℕ
sign_end s = after_one is_sign s 0

unfoldable pub whole_end : List ℕ → ℕ
whole_end s = after_digits s (sign_end s)

unfoldable pub point_end : List ℕ → ℕ
point_end s = after_one is_point s (whole_end s)

unfoldable pub decimals_end : List ℕ → ℕ
decimals_end s = after_digits s (point_end s)

unfoldable pub letter_end : List ℕ → ℕ
letter_end s = after_one is_letter s (decimals_end s)

unfoldable pub power_sign_end : List ℕ → ℕ
power_sign_end s = cond (ltb (decimals_end s) (letter_end s)) (after_one is_sign s (letter_end s)) (letter_end s)

unfoldable pub power_end : List ℕ → ℕ
power_end s = after_digits s (power_sign_end s)

-- a digit before or after the point; one after a letter; and nothing behind
unfoldable pub has_form : List ℕ → Bool
has_form s =
    ltb 0 ((whole_end s - sign_end s) + (decimals_end s - point_end s))
    && (eqb (letter_end s) (decimals_end s) || ltb (power_sign_end s) (power_end s))
    && eqb (power_end s) (length s)

-- it stands on a line, so it is no longer than one
unfoldable pub is_number : List ℕ → Bool
is_number s = leb (length s) longest_line && has_form s

-- the number n with the digits at the front of s behind it
unfoldable pub followed : ℕ → List ℕ → ℕ
followed n [] = n
followed n (b ∷ s) = cond (is_digit b) (followed (n * 10 + (b - 48)) s) n

-- all digits before the exponent as one number
unfoldable pub digits_of : List ℕ → ℕ
digits_of s = followed (followed 0 (drop (sign_end s) s)) (drop (point_end s) s)

-- the exponent without its sign, and whether that is a minus
unfoldable pub power_of : List ℕ → ℕ
power_of s = followed 0 (drop (power_sign_end s) s)

unfoldable pub is_power_minus : List ℕ → Bool
is_power_minus s = ltb (decimals_end s) (letter_end s) && is_minus (get_or s (letter_end s) 0)

-- n / d with its sign, where it is a whole number below 2^64
unfoldable pub with_sign : Bool → ℕ → Number
with_sign true v = Minus v
with_sign false v = Plus v

unfoldable pub quotient : Bool → ℕ → ℕ → Number
quotient minus n d = cond (eqb (n % d) 0 && ltb (n / d) (2 ^ 64)) (with_sign minus (n / d)) Inexact

-- n×10^up / 10^down "exactly", for a number n of at most len digits. The powers are capped so that this computes whatever the exponent:
-- twenty more zeros are too many for any n but 0, and no n but 0 has more than len of them to take away. The law `exact_value` of kernel_numbers says it without the caps.
unfoldable pub scaled : Bool → ℕ → ℕ → ℕ → ℕ → Number
scaled minus len n up down = quotient minus (n * 10 ^ min (up - down) 20) (10 ^ min (down - up) len)

-- the value in units of 10^-k
unfoldable pub value_in : ℕ → List ℕ → Number
value_in k s =
    scaled (is_minus (get_or s 0 0)) (length s) (digits_of s)
    (k + cond (is_power_minus s) 0 (power_of s))
    ((decimals_end s - point_end s) + cond (is_power_minus s) (power_of s) 0)

unfoldable pub number_in : ℕ → List ℕ → Number
number_in k s = cond (is_number s) (value_in k s) Malformed
