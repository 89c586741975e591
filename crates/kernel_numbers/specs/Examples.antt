-- Numbers as kernel texts write them, good ones and bad ones, as one table with one statement.
use Rattle.std.specs.Prelude.{ℕ, ◌≡◌, refl, List, [], ◌∷◌, map}
use Prim.Native.String.{String}
use Rattle.rules.specs.Examples.{bytes}
use Rattle.kernel_rules.specs.declared.Number.{Number}
use Rattle.kernel_rules.specs.declared.Number.TheVariants.{Malformed, Inexact, Plus, Minus}
use Rattle.kernel_rules.specs.Numbers.{number_in}
use Rattle.kernel_rules.specs.Computing.{reading}

pub record Case : Type 0 where
  pub scale : ℕ
  pub text : String
  pub value : Number

unfoldable pub case : ℕ → String → Number → Case
case k t v = record { scale = k; text = t; value = v }

unfoldable pub numbers : List Case
numbers =
    -- a type, a time system, a count: the exact number is compared
    case 0 "1.0D0" (Plus 1)
    ∷ case 0 "1.5" Inexact
    ∷ case 0 "-1" (Minus 1)
    ∷ case 0 "1E400" Inexact
    -- 64 bits, and one more
    ∷ case 12 "-25E-9" (Minus 25_000)
    ∷ case 0 "2.5" Inexact
    ∷ case 0 "-2" (Minus 2)
    ∷ case 0 "-0" (Minus 0)
    ∷ case 0 "257" (Plus 257)
    ∷ case 9 "-9223372036.854775808" (Minus 9_223_372_036_854_775_808)
    ∷ case 9 "-9223372036.854775809" (Minus 9_223_372_036_854_775_809)
    ∷ case 0 "18446744073709551615" (Plus 18_446_744_073_709_551_615)
    ∷ case 0 "18446744073709551616" Inexact
    ∷ case 1 "1844674407370955161.5" (Plus 18_446_744_073_709_551_615)
    ∷ case 1 "1844674407370955161.6" Inexact
    ∷ case 1 "1844674407370955162" Inexact
    ∷ case 0 "184467440737095516150E-1" (Plus 18_446_744_073_709_551_615)
    ∷ case 0 "184467440737095516160E-1" Inexact
    ∷ case 0 "184467440737095516151E-1" Inexact
    -- exact as written
    ∷ case 0 "90000000000000000000000000000000000000000000000000000000000000000000000000000000000E-80" (Plus 900)
    ∷ case 12 "25.001E-9" (Plus 25_001)
    ∷ case 12 "25.0001E-9" Inexact
    ∷ case 12 "25.00100000000000000000000000000000000000000000000000E-9" (Plus 25_001)
    ∷ case 0 "0E99999999999999999999" (Plus 0)
    ∷ case 0 "0E-99999999999999999999" (Plus 0)
    ∷ case 0 "1E99999999999999999999" Inexact
    ∷ case 0 "1E-99999999999999999999" Inexact
    ∷ case 0 "0000000000000000000000000000000000000007" (Plus 7)
    ∷ case 0 "1E0000000000000000000000000000000000000002" (Plus 100)
    -- each part of a number
    ∷ case 0 "7" (Plus 7)
    ∷ case 0 "+7" (Plus 7)
    ∷ case 0 "7." (Plus 7)
    ∷ case 0 "-7." (Minus 7)
    ∷ case 2 "7.25" (Plus 725)
    ∷ case 2 ".25" (Plus 25)
    ∷ case 2 "+.25" (Plus 25)
    ∷ case 2 "-.25" (Minus 25)
    ∷ case 0 "7E2" (Plus 700)
    ∷ case 0 "7e2" (Plus 700)
    ∷ case 0 "7D2" (Plus 700)
    ∷ case 0 "7d2" (Plus 700)
    ∷ case 0 "7E+2" (Plus 700)
    ∷ case 0 "700E-2" (Plus 7)
    ∷ case 0 "7.E2" (Plus 700)
    ∷ case 0 ".7E2" (Plus 70)
    ∷ case 0 "-7.25d+02" (Minus 725)
    -- each part broken
    ∷ case 0 "" Malformed
    ∷ case 0 "+" Malformed
    ∷ case 0 "." Malformed
    ∷ case 0 "-." Malformed
    ∷ case 0 "E2" Malformed
    ∷ case 0 "+E2" Malformed
    ∷ case 0 ".E2" Malformed
    ∷ case 0 "7E" Malformed
    ∷ case 0 "7.25d" Malformed
    ∷ case 0 "7E+" Malformed
    ∷ case 0 "7D-" Malformed
    ∷ case 0 "++7" Malformed
    ∷ case 0 "+-7" Malformed
    ∷ case 0 "7+" Malformed
    ∷ case 0 "7-2" Malformed
    ∷ case 0 "7..2" Malformed
    ∷ case 0 "7.2.5" Malformed
    ∷ case 0 "7EE2" Malformed
    ∷ case 0 "7E2E2" Malformed
    ∷ case 0 "7E+-2" Malformed
    ∷ case 0 "7E2.5" Malformed
    ∷ case 0 "7F2" Malformed
    ∷ case 0 " 7" Malformed
    ∷ case 0 "7 " Malformed
    ∷ case 0 "7 2" Malformed
    ∷ case 0 "7,2" Malformed
    ∷ case 0 "7x" Malformed
    ∷ case 0 "x7" Malformed
    ∷ []

pub numbers_hold : map (λ c. number_in c.scale (bytes c.text)) numbers ≡ map (λ c. c.value) numbers
unfolding reading case numbers
numbers_hold = refl
