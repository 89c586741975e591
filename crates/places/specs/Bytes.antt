-- Request 3, of a 5: "the earliest byte that can't stand where it is (a front part empty or all blanks: its `/`; with two numbers: the
-- second)". Which bytes of a text are at fault, each by itself, and what it is to be the first of them.
use Rattle.std.specs.Prelude.{ℕ, ◌-◌, ◌<◌, ◌≡◌, Bool, true, false, not, ◌&&◌, ◌||◌, cond, List, ltb, eqb, length, get_or}
use Rattle.std.proofs.Math.Option.{Option, none, some}
use Rattle.base.specs.Scans.{some_below}
use Rattle.rules.specs.Text.{is_digit, is_blank, is_allowed}
use Rattle.rules.specs.Stamp.{slash_in}

-- Byte i of a clock text is at fault where it is not allowed.
unfoldable pub text_at_fault : List ℕ → ℕ → Bool
text_at_fault s i = not (is_allowed (get_or s i 0))

-- a digit stands somewhere before byte i
unfoldable pub digit_before : List ℕ → ℕ → Bool
digit_before s i = some_below (λ j. is_digit (get_or s j 0)) i

-- a second number begins at byte i: a digit, with a digit somewhere before it and none directly before it
unfoldable pub second_number : List ℕ → ℕ → Bool
second_number s i = digit_before s i && not (is_digit (get_or s (i - 1) 0)) && is_digit (get_or s i 0)

-- Byte i of a front part: a byte but a blank or a digit, and "with two numbers: the second".
unfoldable pub front_at_fault : List ℕ → ℕ → Bool
front_at_fault s i = not (is_blank (get_or s i 0) || is_digit (get_or s i 0)) || second_number s i

-- Byte i of a stamp, by where its first `/` stands. "a front part empty or all blanks: its `/`": no digit stands before it.
unfoldable pub at_fault_by : List ℕ → Option ℕ → ℕ → Bool
at_fault_by s none i = text_at_fault s i
at_fault_by s (some slash) i = cond (ltb i slash) (front_at_fault s i) (cond (eqb i slash) (not (digit_before s i)) (text_at_fault s i))

unfoldable pub stamp_at_fault : List ℕ → ℕ → Bool
stamp_at_fault s i = at_fault_by s (slash_in s) i

-- byte i of a text is at fault, and no byte before it is
pub record FirstAtFault (at_fault : ℕ → Bool) (s : List ℕ) (i : ℕ) : Type 0 where
  pub below : i < length s
  pub here : at_fault i ≡ true
  pub before : (j : ℕ) → j < i → at_fault j ≡ false
