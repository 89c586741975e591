-- The pass over clock text as the code goes: what it keeps after some bytes, one more byte, and the count at the end.
-- proofs/Ladder.antt shows that this is the count of rules' specs/Text.antt.
use Rattle.std.specs.Prelude.{ℕ, ◌+◌, ◌-◌, ◌*◌, min, Bool, true, false, cond, List, [], ◌∷◌, leb, ltb, eqb, length, get_or, drop}
use Rattle.base.specs.Scans.{product}
use Rattle.rules.specs.Limits.{largest_field, largest_count}
use Rattle.rules.specs.declared.Reading.{Reading}
use Rattle.rules.specs.Answer.{Answer, answer, refuse, refuse_at, unless_at, fails_at, reading}
use Rattle.rules.specs.Text.{Before, edge, number, gap, is_digit, is_mark, is_allowed}
use Rattle.rules.specs.Stamp.{stands_in_front}
use Rattle.fields.specs.declared.Fault.{Fault}
use Rattle.fields.specs.declared.Fault.TheVariants as Faults
use Rattle.fields.specs.declared.Pass.{Pass}
use Rattle.fields.specs.declared.Scanned.{Scanned}

-- one above the largest, for numbers that are larger still
abbrev pub field_cap : ℕ
field_cap = largest_field + 1

abbrev pub sum_cap : ℕ
sum_cap = largest_count + 1

-- a fault at the place i is the answer; without one it is what follows
unfoldable pub or_fault : Fault → ℕ → Answer Reading → Answer Reading
or_fault Faults.None i a = a
or_fault Faults.Missing i a = refuse 6
or_fault Faults.Below i a = refuse_at 8 i
or_fault Faults.Above i a = refuse_at 9 i
or_fault Faults.Surplus i a = refuse_at 7 i

abbrev pub faultless : Fault → Bool
faultless Faults.None = true
faultless Faults.Missing = false
faultless Faults.Below = false
faultless Faults.Above = false
faultless Faults.Surplus = false

abbrev pub is_surplus : Fault → Bool
is_surplus Faults.None = false
is_surplus Faults.Missing = false
is_surplus Faults.Below = false
is_surplus Faults.Above = false
is_surplus Faults.Surplus = true

-- a field of which no digit was met
abbrev pub fresh : ℕ → ℕ → Fault → ℕ → Pass
fresh k s f i = record { field = k; first = 0; value = 0; sum = s; found = i; present = false; gap = false; fault = f }

-- before the first byte
abbrev pub begun : Pass
begun = fresh 0 0 Faults.None 0

-- what is wrong with a field of the value v and the offset o
unfoldable pub value_fault : ℕ → ℕ → Fault
value_fault v o = cond (leb v largest_field) (cond (leb o v) Faults.None Faults.Below) Faults.Above

-- the same of the field at hand
unfoldable pub fault_in : Pass → ℕ → Fault
fault_in p o = cond p.present (value_fault p.value o) (cond (eqb p.field 0) Faults.Missing Faults.None)

-- the first fault, the field at hand included, and its place: that of a field is its first digit
unfoldable pub fault_with : Pass → ℕ → Fault
fault_with p o = cond (faultless p.fault) (fault_in p o) p.fault

unfoldable pub found_with : Pass → ℕ
found_with p = cond (faultless p.fault) p.first p.found

-- Where 7 is given at a surplus field: at its first digit or at the text's end, unless an earlier surplus field has a place already.
unfoldable pub surplus_in : ℕ → Pass → ℕ
surplus_in end p = cond (is_surplus p.fault) p.found (cond p.present p.first end)

-- the ticks of the field at hand
unfoldable pub ticks_in : Pass → ℕ → ℕ
ticks_in p o = cond p.present (p.value - o) 0

-- the sum, the field at hand included, whose modulus is m and offset o
unfoldable pub sum_with : Pass → ℕ → ℕ → ℕ
sum_with p m o = min (p.sum * m + ticks_in p o) sum_cap

-- a digit of the field at hand, at the place i
abbrev pub digit_in : Pass → ℕ → ℕ → Pass
digit_in p i d =
    record {
      field = p.field;
      first = cond p.present p.first i;
      value = min (p.value * 10 + d) field_cap;
      sum = p.sum;
      found = p.found;
      present = true;
      gap = false;
      fault = p.fault;
    }

-- a blank: a gap only after a digit
abbrev pub with_blank : Pass → Pass
with_blank p =
    record {
      field = p.field;
      first = p.first;
      value = p.value;
      sum = p.sum;
      found = p.found;
      present = p.present;
      gap = p.present;
      fault = p.fault;
    }

-- what stands before the next byte
unfoldable pub before : Pass → Before
before p = cond p.gap gap (cond p.present number edge)

-- the sum's 9, and the count
unfoldable pub count_of : ℕ → ℕ → Answer Reading
count_of end t = unless_at 9 (fails_at end (leb t largest_count)) (answer (reading t))

-- by n moduli and n offsets, of a text that ends at the place `end`
module _ (ms os : List ℕ) (end : ℕ) where
  -- A mark: the next field. After the n-th it is a surplus field, and faults before it no longer count.
  unfoldable pub next : Pass → Pass
  next p =
      cond (ltb p.field (length ms))
      (cond (ltb (p.field + 1) (length ms))
      (fresh (p.field + 1) (sum_with p (get_or ms p.field 0) (get_or os p.field 0)) (fault_with p (get_or os p.field 0)) (found_with p))
      (fresh (length ms) 0 Faults.None 0))
      (fresh (length ms) 0 Faults.Surplus (surplus_in end p))

  -- a digit at the place i: after a gap it stands in the next field
  unfoldable pub with_digit : Pass → ℕ → ℕ → Pass
  with_digit p i d = digit_in (cond p.gap (next p) p) i d

  unfoldable pub step : Pass → ℕ → ℕ → Pass
  step p i b = cond (is_digit b) (with_digit p i (b - 48)) (cond (is_mark b) (next p) (with_blank p))

  -- up to the first byte that is not allowed, from the place i
  unfoldable pub scan_from : Pass → ℕ → List ℕ → Scanned
  scan_from p i [] = record { at = i; pass = p }
  scan_from p i (b ∷ s) = cond (is_allowed b) (scan_from (step p i b) (i + 1) s) (record { at = i; pass = p })

  -- the sum in ticks: times the moduli of the fields that are missing
  unfoldable pub sum_in : Pass → ℕ
  sum_in p = min (sum_with p (get_or ms p.field 0) (get_or os p.field 0) * product (drop (p.field + 1) ms)) sum_cap

  -- at the end: 7 of a surplus field; otherwise the first fault, then the sum's 9, and the count
  unfoldable pub total : Pass → Answer Reading
  total p =
      cond (ltb p.field (length ms))
      (or_fault (fault_with p (get_or os p.field 0)) (found_with p) (count_of end (sum_in p)))
      (refuse_at 7 (surplus_in end p))

-- a byte of a front part at the place i: no field ends in one
unfoldable pub front_step : Pass → ℕ → ℕ → Pass
front_step p i b = cond (is_digit b) (digit_in p i (b - 48)) (with_blank p)

-- up to the first byte that can't stand in a front part, from the place i
unfoldable pub front_scan_from : Pass → ℕ → List ℕ → Scanned
front_scan_from p i [] = record { at = i; pass = p }
front_scan_from p i (b ∷ s) =
    cond (stands_in_front (before p) b) (front_scan_from (front_step p i b) (i + 1) s) (record { at = i; pass = p })
