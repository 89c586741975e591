-- Request 3, of 7, 8 and 9: "the first digit of the first surplus field, the first digit of the field; for an over-large sum, or a surplus
-- field that is empty, the text's length". Which bytes of a clock text are the digits of which field; then where its fields are refused.
-- The clock text begins at the place `start` of the text s: at 0, or behind a stamp's first `/`.
use Rattle.std.specs.Prelude.{ℕ, zero, suc, ◌+◌, ◌-◌, ◌≤◌, ◌<◌, ◌≡◌, Bool, true, ◌&&◌, ◌||◌, cond, List, [], ◌∷◌, ◌++◌, map, leb, ltb, eqb, length, get_or, drop}
use Rattle.base.specs.Scans.{all_of, all_below, some_below, sum_below}
use Rattle.rules.specs.Limits.{largest_field, largest_count}
use Rattle.rules.specs.Text.{is_digit, is_blank, is_mark, is_allowed, Field, digit_at, fields_from, value_of, sum_of}
use Rattle.rules.specs.Edges.{tabulate}

-- "run of blanks with a digit directly on both sides": bytes j and i are digits, and between them stand blanks, at least one
unfoldable pub gap_between : List ℕ → ℕ → ℕ → Bool
gap_between s j i =
    all_of
    (is_digit (get_or s j 0)
    ∷ is_digit (get_or s i 0)
    ∷ ltb (j + 1) i
    ∷ all_below (λ m. leb m j || is_blank (get_or s m 0)) i
    ∷ [])

-- A field ends before byte i: byte i is a mark, or the digit behind such a run.
unfoldable pub ends_field : List ℕ → ℕ → ℕ → Bool
ends_field s start i = is_mark (get_or s i 0) || some_below (λ j. leb start j && gap_between s j i) i

-- how many fields of the clock text have ended when byte i is reached
unfoldable pub fields_ended : List ℕ → ℕ → ℕ → ℕ
fields_ended s start i = sum_below (λ j. cond (leb start j && ends_field s start j) 1 0) i

-- of a digit at i the number, from 0, of its field: as many fields end before it
abbrev pub field_at : List ℕ → ℕ → ℕ → ℕ
field_at s start i = fields_ended s start (i + 1)

-- how many fields there are
abbrev pub fields_in : List ℕ → ℕ → ℕ
fields_in s start = fields_ended s start (length s) + 1

-- byte i is a digit of field k
unfoldable pub in_field : List ℕ → ℕ → ℕ → ℕ → Bool
in_field s start k i = is_digit (get_or s i 0) && eqb (field_at s start i) k

-- those of the n numbers from i on of which p holds
unfoldable pub those : (ℕ → Bool) → ℕ → ℕ → List ℕ
those p i zero = []
those p i (suc n) = cond (p i) (i ∷ []) [] ++ those p (i + 1) n

-- field k, as its digits from left to right
unfoldable pub field_in : List ℕ → ℕ → ℕ → Field
field_in s start k = map (λ i. digit_at i (get_or s i 0)) (those (in_field s start k) start (length s - start))

abbrev pub clock_fields : List ℕ → ℕ → List Field
clock_fields s start = tabulate (field_in s start) (fields_in s start)

-- The fields of a clock text whose bytes are allowed are these.
abbrev pub FieldsByBytes : Type 0
FieldsByBytes =
    (s : List ℕ) (start : ℕ) → start ≤ length s → ((i : ℕ) → start ≤ i → i < length s → is_allowed (get_or s i 0) ≡ true)
    → fields_from start (drop start s) ≡ clock_fields s start

-- byte i is a digit of field k and the first of it: every digit before it is one of an earlier field
pub record FirstDigit (s : List ℕ) (start k i : ℕ) : Type 0 where
  pub from : start ≤ i
  pub below : i < length s
  pub digit : is_digit (get_or s i 0) ≡ true
  pub in_field_lem : field_at s start i ≡ k
  pub first : (j : ℕ) → start ≤ j → j < i → is_digit (get_or s j 0) ≡ true → field_at s start j < k

-- no byte is a digit of field k
abbrev pub EmptyField : List ℕ → ℕ → ℕ → Type 0
EmptyField s start k = (i : ℕ) → start ≤ i → i < length s → is_digit (get_or s i 0) ≡ true → field_at s start i ≡ k → ⊥

-- the number that the digits of field k make
abbrev pub value_in : List ℕ → ℕ → ℕ → ℕ
value_in s start k = value_of (field_in s start k)

-- Field k is refused neither 9 nor 8; an empty field never is.
pub record GoodField (os s : List ℕ) (start k : ℕ) : Type 0 where
  pub not_above_lem : value_in s start k ≤ largest_field
  pub not_below_lem : (i : ℕ) → FirstDigit s start k i → get_or os k 0 ≤ value_in s start k

abbrev pub GoodBefore : List ℕ → List ℕ → ℕ → ℕ → Type 0
GoodBefore os s start k = (j : ℕ) → j < k → GoodField os s start j

-- there are more than n fields, and the first surplus one, which is field n, is empty
pub record EmptySurplus (n : ℕ) (s : List ℕ) (start : ℕ) : Type 0 where
  pub surplus : n < fields_in s start
  pub empty : EmptyField s start n

-- every field is good, but the sum is not
pub record LargeSum (ms os s : List ℕ) (start : ℕ) : Type 0 where
  pub good : (k : ℕ) → k < fields_in s start → k < length os → GoodField os s start k
  pub sum : largest_count < sum_of (clock_fields s start) ms os

-- Where the fields of a clock text are refused, by n moduli and n offsets: the number of the refusal, and its place.
pub data FieldPlace (ms os s : List ℕ) (start : ℕ) : ℕ → ℕ → Type 0 where
  -- "the first digit of the first surplus field"; "for .. a surplus field that is empty, the text's length"
  surplus_digit : (i : ℕ) → FirstDigit s start (length ms) i → FieldPlace ms os s start 7 i
  surplus_empty : EmptySurplus (length ms) s start → FieldPlace ms os s start 7 (length s)
  -- "the first digit of the field", of the leftmost field that is above the limit or below its offset
  above_limit :
      (k i : ℕ) → k < length os → GoodBefore os s start k → FirstDigit s start k i
      → largest_field < value_in s start k → FieldPlace ms os s start 9 i
  below_offset :
      (k i : ℕ) → k < length os → GoodBefore os s start k → FirstDigit s start k i
      → value_in s start k ≤ largest_field → value_in s start k < get_or os k 0 → FieldPlace ms os s start 8 i
  -- "for an over-large sum .. the text's length"
  large_sum : LargeSum ms os s start → FieldPlace ms os s start 9 (length s)
