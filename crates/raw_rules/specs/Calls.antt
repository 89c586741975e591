-- Lists of calls on one raw counter, "each on the state the one before left", each with tables of its own.
use Rattle.std.specs.Prelude.{ℕ, List, [], ◌∷◌}
use Rattle.rules.specs.declared.Layout.{Layout}
use Rattle.rules.specs.Answer.{Answer}
use Rattle.rules.specs.Partitions.{Partitions}
use Rattle.raw_rules.specs.declared.RawCounter.{RawCounter}
use Rattle.raw_rules.specs.Counter.{reset_raw, read_raw, counter_after}

-- A reset to the partition of a number, or a reading; the last argument of each is the raw number.
pub data Call : Type 0 where
  reset : Layout → Partitions → ℕ → ℕ → Call
  read : Layout → Partitions → ℕ → Call

unfoldable pub call_answer : RawCounter → Call → Answer ℕ
call_answer c (reset l p number raw) = reset_raw l p number
call_answer c (read l p raw) = read_raw l p c raw

abbrev pub raw_of : Call → ℕ
raw_of (reset l p number raw) = raw
raw_of (read l p raw) = raw

-- the counter after one call
unfoldable pub after_call : RawCounter → Call → RawCounter
after_call c x = counter_after c (raw_of x) (call_answer c x)

-- the counter after all
unfoldable pub after_calls : RawCounter → List Call → RawCounter
after_calls c [] = c
after_calls c (x ∷ xs) = after_calls (after_call c x) xs
