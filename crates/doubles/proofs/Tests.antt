-- What the code's tests on doubles and on MSF say.
use Prim.Native.Nat.{ℕ, ◌≤◌}
use mathlib.Core.Path.{◌≡◌, refl, sym}
use mathlib.Core.Bool.{true, false}
use lib.IntN.{pos}
use lib.Dec.{T, leb, le→leb}
use lib.Ieee.{Float, nan, inf, fin, binary64, neg, div, lt, ne, of_int, of_bits, in_float}
use borrow.Author.Tests.{leb-true}
use native.Mathlib.Omega.{arith}
use Rattle.base.proofs.Tests.{and_second}
use Rattle.rules.specs.Limits.{largest_msf, largest_count}
use Rattle.rules.specs.declared.DoubleSegment.{DoubleSegment}
use Rattle.rules.specs.Doubles.{double, tick_of, msf_ok, finite, rate_ok}

pub msf_small : (msf : ℕ) → msf_ok msf ≡ true → msf ≤ largest_msf
unfolding msf_ok
msf_small msf h = leb-true msf largest_msf (and_second (leb 1 msf) (leb msf largest_msf) h)

-- a whole number within either limit is a double exactly
pub exact : (n : ℕ) → n ≤ largest_count → T (in_float binary64 (pos n))
unfolding in_float
exact n h = le→leb n _ (omega arith)

-- the code's constants
abbrev infinity : Float
infinity = div binary64 (of_bits binary64 0x3ff0_0000_0000_0000) (of_bits binary64 0)

pub finite_in : (x : Float) → lt x infinity ≡ true → lt (neg infinity) x ≡ finite x
unfolding lt neg div of_bits finite
finite_in nan h = refl
finite_in (inf true) h = refl
finite_in (inf false) h = sym h
finite_in (fin s m e) h = refl

pub finite_out : (x : Float) → lt x infinity ≡ false → lt x infinity ≡ finite x
unfolding lt neg div of_bits finite
finite_out nan h = refl
finite_out (inf true) h = h
finite_out (inf false) h = refl
finite_out (fin s m e) h = refl

module _ (s : DoubleSegment) (msf : ℕ) where
  zero_is : of_bits binary64 0 ≡ double 0
  unfolding of_bits of_int
  zero_is = refl

  pub rate_in : {x : Float} → lt (of_bits binary64 0) s.rate ≡ true → x ≡ tick_of s msf → ne x (of_bits binary64 0) ≡ rate_ok s msf
  unfolding rate_ok ne
  rate_in t e = rw (← zero_is, t, e)

  pub rate_out : lt (of_bits binary64 0) s.rate ≡ false → lt (of_bits binary64 0) s.rate ≡ rate_ok s msf
  unfolding rate_ok
  rate_out f = rw (← zero_is, f)
