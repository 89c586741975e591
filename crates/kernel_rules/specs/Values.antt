-- Numbers as they are written, and their values in units of 10^-k: 0 for whole numbers, 9 for nanoseconds, 12 for picoseconds.
use Rattle.std.specs.Prelude.{ℕ, ◌≡◌, refl, List, [], ◌∷◌, map}
use Prim.Native.String.{String}
use Rattle.rules.specs.Examples.{bytes}
use Rattle.kernel_rules.specs.declared.Number.{Number}
use Rattle.kernel_rules.specs.declared.Number.TheVariants.{Malformed, Inexact, Plus, Minus}
use Rattle.kernel_rules.specs.Numbers.{number_in}
use Rattle.kernel_rules.specs.Computing.{reading}

pub record Value : Type 0 where
  pub power : ℕ
  pub written : String
  pub expected : Number

unfoldable pub value : ℕ → String → Number → Value
value k s v = record { power = k; written = s; expected = v }

unfoldable pub values : List Value
values =
    value 0 "900" (Plus 900)
    ∷ value 0 "+0900.000" (Plus 900)
    ∷ value 0 "-0" (Minus 0)
    ∷ value 0 "9.E2" (Plus 900)
    ∷ value 0 ".9D+03" (Plus 900)
    ∷ value 0 "9000e-01" (Plus 900)
    ∷ value 0 "1.5" Inexact
    ∷ value 0 "15E-1" Inexact
    ∷ value 0 "18446744073709551615" (Plus 18_446_744_073_709_551_615)
    ∷ value 0 "18446744073709551616" Inexact
    ∷ value 0 "-18446744073709551615" (Minus 18_446_744_073_709_551_615)
    ∷ value 0 "1E19" (Plus 10_000_000_000_000_000_000)
    ∷ value 0 "1E20" Inexact
    ∷ value 0 "100000000000000000000E-1" (Plus 10_000_000_000_000_000_000)
    ∷ value 0 "0.00000000000000000000001E23" (Plus 1)
    ∷ value 0 "0E99999999999999999999" (Plus 0)
    ∷ value 0 "0.000D-99999999999999999999" (Plus 0)
    ∷ value 0 "1E99999999999999999999" Inexact
    ∷ value 0 "1E-99999999999999999999" Inexact
    ∷ value 9 "-1E-6" (Minus 1_000)
    ∷ value 9 "-9223372036.854775808" (Minus 9_223_372_036_854_775_808)
    ∷ value 9 "1E-10" Inexact
    ∷ value 12 "25.0E-9" (Plus 25_000)
    ∷ value 12 "25.001E-9" (Plus 25_001)
    ∷ value 12 "25.0001E-9" Inexact
    ∷ value 12 "6.0666283888000E+01" (Plus 60_666_283_888_000)
    ∷ value 12 "9.9999996301748E-01" Inexact
    ∷ value 12 "18446744.073709551615" (Plus 18_446_744_073_709_551_615)
    ∷ value 0 "" Malformed
    ∷ value 0 "1E" Malformed
    ∷ value 0 "@1" Malformed
    ∷ value 0 "'1'" Malformed
    ∷ []

pub values_hold : map (λ v. number_in v.power (bytes v.written)) values ≡ map (λ v. v.expected) values
unfolding reading value values
values_hold = refl
