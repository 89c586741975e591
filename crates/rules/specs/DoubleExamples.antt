-- Cases of the double form by computation, as one table with one statement: document 01's example, the order of the operations,
-- and the edges of each refusal.
use Rattle.std.specs.Prelude.{ℕ, true, false, ◌≡◌, refl, List, [], ◌∷◌, map, negsuc, Float}
use Rattle.std.specs.Float.{nan, inf, fin, binary64}
use Rattle.std.specs.Float.Ieee.{neg, add, sub, mul, div, lt, eq, of_int, of_bits}
use Rattle.base.specs.Scans.{all_of}
use Rattle.rules.specs.Answer.{Answer, answer, refuse, unless}
use Rattle.rules.specs.declared.DoubleSegment.{DoubleSegment}
use Rattle.rules.specs.Doubles.{
  double,
  tick_of,
  time_after,
  count_after,
  msf_ok,
  finite,
  segment_finite,
  rate_ok,
  finite_answer,
  forward_double,
  back_double,
}

-- a segment as document 01 writes it: count, time, rate
unfoldable pub segment : Float → Float → Float → DoubleSegment
segment c t r = record { count = c; time = t; rate = r }

-- the double nearest to 0.3, the largest, and the smallest above 0
unfoldable pub three_tenths : Float
three_tenths = of_bits binary64 0x3fd3_3333_3333_3333

unfoldable pub largest : Float
largest = of_bits binary64 0x7fef_ffff_ffff_ffff

unfoldable pub smallest : Float
smallest = fin false 1 (negsuc 1_073)

unfoldable pub zeros : DoubleSegment
zeros = segment (double 0) (double 0) (double 1)

pub data Question : Type 0 where
  forward : DoubleSegment → ℕ → ℕ → Question
  back : DoubleSegment → ℕ → Float → Question

unfoldable pub reply : Question → Answer Float
reply (forward s msf c) = forward_double s msf c
reply (back s msf t) = back_double s msf t

pub record Case : Type 0 where
  pub asked : Question
  pub expected : Answer Float

unfoldable pub case : Question → Answer Float → Case
case q a = record { asked = q; expected = a }

unfoldable pub cases : List Case
cases =
    -- "Double form (0, 100, 1), MSF 256, count 512: 102."
    case (forward (segment (double 0) (double 100) (double 1)) 256 512) (answer (double 102))
    ∷ case (back (segment (double 0) (double 100) (double 1)) 256 (double 102)) (answer (double 512))
    -- 0.1 × 3 is one rounding above 3 / 10; 0.3 / 0.1 is one below 3; the product is rounded before the sum
    ∷ case (forward zeros 10 3) (answer (of_bits binary64 0x3fd3_3333_3333_3334))
    ∷ case (back zeros 10 three_tenths) (answer (of_bits binary64 0x4007_ffff_ffff_ffff))
    ∷ case (forward (segment (double 0) (neg three_tenths) (double 1)) 10 3) (answer (of_bits binary64 0x3c90_0000_0000_0000))
    -- the difference of counts comes before the product, that of times before the quotient: 0.1 × 2 and not 0.1 × 3 - 0.1, 2 / 3 and not 3 / 3 - 1 / 3
    ∷ case (forward (segment (double 1) (double 0) (double 1)) 10 3) (answer (of_bits binary64 0x3fc9_9999_9999_999a))
    ∷ case (back (segment (double 0) (double 1) (double 3)) 1 (double 3)) (answer (of_bits binary64 0x3fe5_5555_5555_5555))
    -- MSF
    ∷ case (forward zeros 0 0) (refuse 15)
    ∷ case (forward zeros 1 0) (answer (double 0))
    ∷ case (forward zeros 1_000_000_000_000 0) (answer (double 0))
    ∷ case (forward zeros 1_000_000_000_001 0) (refuse 15)
    ∷ case (back zeros 0 (double 0)) (refuse 15)
    ∷ case (back zeros 1_000_000_000_000 (double 0)) (answer (double 0))
    ∷ case (back zeros 1_000_000_000_001 (double 0)) (refuse 15)
    -- the count given
    ∷ case (forward zeros 1 1_000_000_000_000_000) (answer (double 1_000_000_000_000_000))
    ∷ case (forward zeros 1 1_000_000_000_000_001) (refuse 15)
    -- back answers beyond 10^15 too
    ∷ case (back zeros 2 (double 1_000_000_000_000_000)) (answer (double 2_000_000_000_000_000))
    -- a number not finite
    ∷ case (forward (segment nan (double 0) (double 1)) 1 0) (refuse 15)
    ∷ case (forward (segment (inf true) (double 0) (double 1)) 1 0) (refuse 15)
    ∷ case (forward (segment (double 0) (inf false) (double 1)) 1 0) (refuse 15)
    ∷ case (forward (segment (double 0) (double 0) (inf false)) 1 0) (refuse 15)
    ∷ case (back zeros 1 nan) (refuse 15)
    ∷ case (back zeros 1 (inf false)) (refuse 15)
    ∷ case (back zeros 1 (inf true)) (refuse 15)
    ∷ case (back (segment (inf true) (double 0) (double 1)) 1 (double 0)) (refuse 15)
    ∷ case (back (segment (inf false) (double 0) (double 1)) 1 (double 0)) (refuse 15)
    ∷ case (back (segment (double 0) (inf true) (double 1)) 1 (double 0)) (refuse 15)
    ∷ case (back (segment (double 0) (double 0) (inf false)) 1 (double 0)) (refuse 15)
    -- the rate
    ∷ case (forward (segment (double 0) (double 0) (double 0)) 1 0) (refuse 15)
    ∷ case (back (segment (double 0) (double 0) (neg (double 0))) 1 (double 0)) (refuse 15)
    ∷ case (forward (segment (double 0) (double 0) (neg smallest)) 1 0) (refuse 15)
    ∷ case (forward (segment (double 0) (double 0) smallest) 1 1) (answer smallest)
    ∷ case (forward (segment (double 0) (double 0) smallest) 2 1) (refuse 15)
    -- value before the segment: the segment's own is not, and -0 is not before 0
    ∷ case (forward (segment (double 512) (double 100) (double 1)) 256 512) (answer (double 100))
    ∷ case (forward (segment (double 512) (double 100) (double 1)) 256 511) (refuse 15)
    ∷ case (back (segment (double 512) (double 100) (double 1)) 256 (double 100)) (answer (double 512))
    ∷ case (back (segment (double 512) (double 100) (double 1)) 256 (double 99)) (refuse 15)
    ∷ case (back zeros 1 (neg (double 0))) (answer (double 0))
    -- a segment's own count may be below 0
    ∷ case (forward (segment (neg (double 2)) (double 100) (double 1)) 1 0) (answer (double 102))
    -- result not finite
    ∷ case (forward (segment (double 0) (double 0) largest) 1 1) (answer largest)
    ∷ case (forward (segment (double 0) (double 0) largest) 1 2) (refuse 15)
    ∷ case (back (segment (double 0) (double 0) smallest) 1 (double 1)) (refuse 15)
    ∷ case (back (segment (double 0) (neg largest) (double 1)) 1 largest) (refuse 15)
    ∷ []

pub cases_hold : map (λ c. reply c.asked) cases ≡ map (λ c. c.expected) cases
unfolding neg add sub mul div lt eq of_int of_bits all_of unless tick_of time_after count_after msf_ok finite segment_finite rate_ok finite_answer forward_double back_double segment three_tenths largest smallest zeros reply case cases
cases_hold = refl
