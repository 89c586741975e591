-- "The double form": one segment as three doubles, taken forward from a count to a time and back from a time to a count.
-- Operations are those of IEEE 754 at 64 bits, for every double: NaN, the infinities, both zeros and the subnormals too.
use Rattle.std.specs.Prelude.{ℕ, Bool, true, false, not, ◌&&◌, [], ◌∷◌, pos, leb, Float}
use Rattle.std.specs.Float.{nan, inf, fin, binary64}
use Rattle.std.specs.Float.Ieee.{add, sub, mul, div, lt, eq, of_int}
use Rattle.base.specs.Scans.{all_of}
use Rattle.rules.specs.Limits.{largest_msf, largest_count}
use Rattle.rules.specs.Answer.{Answer, answer, unless}
use Rattle.rules.specs.declared.DoubleSegment.{DoubleSegment}

-- a whole number as a double: exact up to 2^53, which lies above both limits here
abbrev pub double : ℕ → Float
double n = of_int binary64 (pos n)

-- "rate / MSF": the seconds of one tick
unfoldable pub tick_of : DoubleSegment → ℕ → Float
tick_of s msf = div binary64 s.rate (double msf)

-- "time + (rate / MSF) × (count given - count)"
unfoldable pub time_after : DoubleSegment → ℕ → Float → Float
time_after s msf c = add binary64 s.time (mul binary64 (tick_of s msf) (sub binary64 c s.count))

-- "count + (time given - time) / (rate / MSF)"
unfoldable pub count_after : DoubleSegment → ℕ → Float → Float
count_after s msf t = add binary64 s.count (div binary64 (sub binary64 t s.time) (tick_of s msf))

-- "MSF 0 or above 10^12"
unfoldable pub msf_ok : ℕ → Bool
msf_ok msf = leb 1 msf && leb msf largest_msf

-- "a number not finite": a NaN or an infinity
unfoldable pub finite : Float → Bool
finite nan = false
finite (inf s) = false
finite (fin s m e) = true

unfoldable pub segment_finite : DoubleSegment → Bool
segment_finite s = all_of (finite s.count ∷ finite s.time ∷ finite s.rate ∷ [])

-- "rate not above 0, rate/MSF zero"
unfoldable pub rate_ok : DoubleSegment → ℕ → Bool
rate_ok s msf = lt (double 0) s.rate && not (eq (tick_of s msf) (double 0))

-- "result not finite"
unfoldable pub finite_answer : Float → Answer Float
finite_answer x = unless 15 (finite x) (answer x)

-- The call forward. "value before the segment": the count given is below the segment's.
unfoldable pub forward_double : DoubleSegment → ℕ → ℕ → Answer Float
forward_double s msf c =
    unless 15 (msf_ok msf)
    (unless 15 (leb c largest_count)
    (unless 15 (segment_finite s)
    (unless 15 (rate_ok s msf) (unless 15 (not (lt (double c) s.count)) (finite_answer (time_after s msf (double c)))))))

-- The call back. "value before the segment": the time given is before the segment's.
unfoldable pub back_double : DoubleSegment → ℕ → Float → Answer Float
back_double s msf t =
    unless 15 (msf_ok msf)
    (unless 15 (segment_finite s)
    (unless 15 (finite t)
    (unless 15 (rate_ok s msf) (unless 15 (not (lt t s.time)) (finite_answer (count_after s msf t))))))
