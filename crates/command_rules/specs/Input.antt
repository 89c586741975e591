-- A line of input: the number, the time or the message that it is.
use Rattle.std.specs.Prelude.{ℕ, zero, suc, ◌+◌, ◌-◌, ◌*◌, ◌%◌, Bool, true, false, cond, ◌&&◌, ◌||◌, List, [], ◌∷◌, ◌++◌, ℤ, pos, negsuc, eqb, leb, length, get_or, take, drop, replicate}
use Rattle.std.proofs.Math.Option.{Option, none, some}
use Rattle.base.specs.Scans.{all}
use Rattle.rules.specs.Limits.{longest_text}
use Rattle.rules.specs.Text.{is_digit}
use Rattle.rules.specs.Answer.{Answer, answer, unless, unless_at, fails_at}

-- "CR LF": one byte 13 at a line's end is dropped
unfoldable pub without_return : List ℕ → List ℕ
without_return l = cond (eqb (get_or l (length l - 1) 0) 13) (take (length l - 1) l) l

-- where the first byte stands that p does not hold of, of bytes that begin at the place i
unfoldable pub first_other : (ℕ → Bool) → ℕ → List ℕ → Option ℕ
first_other p i [] = none
first_other p i (b ∷ s) = cond (p b) (first_other p (i + 1) s) (some i)

-- the number that digits spell, behind those that spell x
unfoldable pub spelled_from : ℕ → List ℕ → ℕ
spelled_from x [] = x
spelled_from x (b ∷ s) = spelled_from (10 * x + (b - 48)) s

abbrev pub spelled : List ℕ → ℕ
spelled s = spelled_from 0 s

-- a text of up to 96 bytes, and then what follows: 4
abbrev pub of_text : {A : Type 0} → List ℕ → Answer A → Answer A
of_text s a = unless 4 (leb (length s) longest_text) a

-- An encoded count: digits, and at least one. 4, 5, 6.
unfoldable pub read_count : List ℕ → Answer ℕ
read_count s = of_text s (unless_at 5 (first_other is_digit 0 s) (unless 6 (leb 1 (length s)) (answer (spelled s))))

-- `-` in front
unfoldable pub is_minus : List ℕ → Bool
is_minus s = eqb (get_or s 0 0) 45

-- how many bytes the sign has
unfoldable pub sign_length : List ℕ → ℕ
sign_length s = cond (is_minus s) 1 0

-- what follows the sign
unfoldable pub unsigned : List ℕ → List ℕ
unsigned s = drop (sign_length s) s

-- so much below 0, or above
unfoldable pub with_sign : Bool → ℕ → ℤ
with_sign false n = pos n
with_sign true zero = pos 0
with_sign true (suc n) = negsuc n

-- A time in nanoseconds: a count's form, `-` in front of one below 0.
unfoldable pub read_time : List ℕ → Answer ℤ
read_time s =
    of_text s
    (unless_at 5 (first_other is_digit (sign_length s) (unsigned s))
    (unless 6 (leb 1 (length (unsigned s))) (answer (with_sign (is_minus s) (spelled (unsigned s))))))

-- the bytes before the point, and those behind it
unfoldable pub whole_part : List ℕ → List ℕ
whole_part [] = []
whole_part (b ∷ s) = cond (eqb b 46) [] (b ∷ whole_part s)

unfoldable pub decimals : List ℕ → List ℕ
decimals [] = []
decimals (b ∷ s) = cond (eqb b 46) s (decimals s)

-- the first byte that can't stand in digits with one point
unfoldable pub point_fault : ℕ → List ℕ → Option ℕ
point_fault i [] = none
point_fault i (b ∷ s) = cond (is_digit b) (point_fault (i + 1) s) (cond (eqb b 46) (first_other is_digit (i + 1) s) (some i))

-- seconds in nanoseconds: nine decimals, those that are not there 0
unfoldable pub nanoseconds : List ℕ → ℕ
nanoseconds s = spelled (whole_part s ++ take 9 (decimals s ++ replicate 9 48))

-- nothing but 0 behind the ninth decimal
unfoldable pub is_exact : List ℕ → Bool
is_exact s = all (λ b. eqb b 48) (drop 9 (decimals s))

-- A time in decimal seconds. 4, 5, 6, and 20 where it is no whole number of nanoseconds.
unfoldable pub read_seconds : List ℕ → Answer ℤ
read_seconds s =
    of_text s
    (unless_at 5 (point_fault (sign_length s) (unsigned s))
    (unless 6 (leb 1 (length (whole_part (unsigned s))))
    (unless 20 (is_exact (unsigned s)) (answer (with_sign (is_minus s) (nanoseconds (unsigned s)))))))

-- `--seconds` or not
unfoldable pub read_time_by : Bool → List ℕ → Answer ℤ
read_time_by false s = read_time s
read_time_by true s = read_seconds s

-- hex digits of either case
unfoldable pub is_hex : ℕ → Bool
is_hex b = is_digit b || ((leb 65 b && leb b 70) || (leb 97 b && leb b 102))

unfoldable pub worth : ℕ → ℕ
worth b = cond (is_digit b) (b - 48) (cond (leb b 70) (b - 55) (b - 87))

-- two digits a byte
unfoldable pub bytes_of : List ℕ → List ℕ
bytes_of [] = []
bytes_of (a ∷ []) = []
bytes_of (a ∷ b ∷ s) = (16 * worth a + worth b) ∷ bytes_of s

abbrev pub longest_hex : ℕ
longest_hex = 4_000

-- A message in hex. 4, and 5 for a byte that is no hex digit, or at the line's end where a digit is missing.
unfoldable pub read_hex : List ℕ → Answer (List ℕ)
read_hex s =
    unless 4 (leb (length s) longest_hex)
    (unless_at 5 (first_other is_hex 0 s)
    (unless_at 5 (fails_at (length s) (eqb (length s % 2) 0)) (answer (bytes_of s))))
