-- "After any list of calls, each on the state the one before left": what the count is then. proofs/History.antt has the proof.
use Rattle.std.specs.Prelude.{ℕ, ◌+◌, ◌-◌, ◌%◌, ◌≤◌, ◌≡◌, Bool, true, false, ◌&&◌, ◌||◌, cond, List, [], ◌∷◌, ◌++◌, map, leb, ltb}
use Rattle.rules.specs.declared.Layout.{Layout}
use Rattle.rules.specs.Answer.{Answer, answer, refused, Numbered}
use Rattle.rules.specs.Partitions.{Partitions, start_of, lengths_before, total_of}
use Rattle.rules.specs.Stamp.{encode_named}
use Rattle.raw_rules.specs.declared.RawCounter.{RawCounter}
use Rattle.raw_rules.specs.Counter.{raw_numbers, raw_difference, reset_raw, read_raw}
use Rattle.raw_rules.specs.Calls.{Call, reset, read, call_answer, after_call, after_calls}

abbrev pub is_accepted : Answer ℕ → Bool
is_accepted (answer e) = true
is_accepted (refused k) = false

-- "an accepted reset": the counter has no part in it
unfoldable pub is_accepted_reset : Call → Bool
is_accepted_reset (reset l p number raw) = is_accepted (reset_raw l p number)
is_accepted_reset (read l p raw) = false

unfoldable pub some_accepted_reset : List Call → Bool
some_accepted_reset [] = false
some_accepted_reset (x ∷ xs) = is_accepted_reset x || some_accepted_reset xs

-- the raw number of an accepted reading
unfoldable pub accepted_raw : RawCounter → Call → List ℕ
accepted_raw c (reset l p number raw) = []
accepted_raw c (read l p raw) = cond (is_accepted (read_raw l p c raw)) (raw ∷ []) []

-- "the readings accepted", by their raw numbers, in order
unfoldable pub accepted_raws : RawCounter → List Call → List ℕ
accepted_raws c [] = []
accepted_raws c (x ∷ xs) = accepted_raw c x ++ accepted_raws (after_call c x) xs

-- "the differences of the readings", added up: each from the raw number before it, the first from `last`
unfoldable pub differences : ℕ → List ℕ → ℕ
differences last [] = 0
differences last (raw ∷ raws) = raw_difference raw last + differences raw raws

-- the last number of a list, or the one before the list
unfoldable pub last_from : ℕ → List ℕ → ℕ
last_from n [] = n
last_from n (m ∷ ms) = last_from m ms

-- the counter after the raw numbers `raws`, from raw number `last` and count e
unfoldable pub counted : ℕ → ℕ → List ℕ → RawCounter
counted last e raws = record { started = true; raw = last_from last raws; count = e + differences last raws }

-- A list of calls around one reset.
pub record Around : Type 0 where
  pub before : List Call
  pub layout : Layout
  pub partitions : Partitions
  pub number : ℕ
  pub raw : ℕ
  pub since : List Call

abbrev pub reset_in : Around → Call
reset_in s = reset s.layout s.partitions s.number s.raw

unfoldable pub calls_of : Around → List Call
calls_of s = s.before ++ (reset_in s ∷ s.since)

-- "the last such reset": it is accepted, and none since is
abbrev pub reset_accepted : Around → Bool
reset_accepted s = is_accepted_reset (reset_in s)

abbrev pub reset_since : Around → Bool
reset_since s = some_accepted_reset s.since

pub record LastReset (calls : List Call) : Type 0 where
  pub around : Around
  pub whole : calls ≡ calls_of around
  pub taken : reset_accepted around ≡ true
  pub last : reset_since around ≡ false

-- "the readings accepted since", where the list is asked of the counter c
unfoldable pub accepted_since : RawCounter → Around → List ℕ
accepted_since c s = accepted_raws (after_call (after_calls c s.before) (reset_in s)) s.since

-- "the last such reset's start": the encoded count of its partition's start
abbrev pub reset_start : Around → ℕ
reset_start s = lengths_before s.partitions (s.number - 1)

-- "the low 32 bits"
abbrev pub low : ℕ → ℕ
low t = t % raw_numbers

-- the test holds of each number and the next
unfoldable pub each_next : (ℕ → ℕ → Bool) → ℕ → List ℕ → Bool
each_next p n [] = true
each_next p n (m ∷ ms) = p n m && each_next p m ms

-- from one call to the next a counter counts up, and "moved less than 2^32 ticks"
abbrev pub counts_up : ℕ → ℕ → Bool
counts_up n m = leb n m

abbrev pub moves_less : ℕ → ℕ → Bool
moves_less n m = ltb (m - n) raw_numbers

-- Raw numbers, the first at a reset and the others at readings, and where a counter that does not roll over stood at each.
pub record Track : Type 0 where
  pub raw : ℕ
  pub raws : List ℕ
  pub at_reset : ℕ
  pub at_readings : List ℕ

pub data Hypothesis : Type 0 where
  reset_low : Hypothesis
  readings_low : Hypothesis
  rises : Hypothesis
  short : Hypothesis

-- "a true counter (a natural number whose low 32 bits are the raw numbers)", and how it moved
abbrev pub Says : Track → Hypothesis → Type 0
Says t reset_low = t.raw ≡ low t.at_reset
Says t readings_low = t.raws ≡ map low t.at_readings
Says t rises = each_next counts_up t.at_reset t.at_readings ≡ true
Says t short = each_next moves_less t.at_reset t.at_readings ≡ true

-- "what it moved"
abbrev pub moved_by : Track → ℕ
moved_by t = last_from t.at_reset t.at_readings - t.at_reset

abbrev pub added_up : Track → ℕ
added_up t = differences t.raw t.raws

-- the reset of a list of calls and the readings since, and where a true counter stood at each
abbrev pub track_of : RawCounter → Around → ℕ → List ℕ → Track
track_of c s at_reset at_readings = record { raw = s.raw; raws = accepted_since c s; at_reset = at_reset; at_readings = at_readings }

pub record History : Type 0 where
  -- "with an accepted reset among them" one is the last
  pub last_reset : (calls : List Call) → some_accepted_reset calls ≡ true → LastReset calls
  -- "the count equals the last such reset's start plus the differences of the readings accepted since", from any counter c
  pub count : (c : RawCounter) (calls : List Call) (r : LastReset calls) → after_calls c calls ≡ counted r.around.raw (reset_start r.around) (accepted_since c r.around)
  -- "they add up to what it moved"
  pub moved : (t : Track) → ((h : Hypothesis) → Says t h) → added_up t ≡ moved_by t
  -- both together
  pub true_count : (c : RawCounter) (calls : List Call) (r : LastReset calls) (at_reset : ℕ) (at_readings : List ℕ) → ((h : Hypothesis) → Says (track_of c r.around at_reset at_readings) h)
      → (after_calls c calls).count ≡ reset_start r.around + moved_by (track_of c r.around at_reset at_readings)
  -- without an accepted reset: a counter that has had one goes on, one that has not stays
  pub goes_on : (c : RawCounter) (calls : List Call) → c.started ≡ true → some_accepted_reset calls ≡ false → after_calls c calls ≡ counted c.raw c.count (accepted_raws c calls)
  pub stays : (c : RawCounter) (calls : List Call) → c.started ≡ false → some_accepted_reset calls ≡ false → after_calls c calls ≡ c
  -- "A refused reading or reset leaves the state."
  pub refused_leaves : (c : RawCounter) (x : Call) (k : Numbered) → call_answer c x ≡ refused k → after_call c x ≡ c
  -- "starts again at its start": what 01 encodes the start of that partition to
  pub reset_start_lem : (l : Layout) (p : Partitions) (number e : ℕ) → reset_raw l p number ≡ answer e → encode_named p number (start_of p (number - 1)) ≡ answer e
  -- an answer is an encoded count of the call's table: count to time and printing do not refuse it 12
  pub reset_within : (l : Layout) (p : Partitions) (number e : ℕ) → reset_raw l p number ≡ answer e → e ≤ total_of p
  pub read_within : (l : Layout) (p : Partitions) (c : RawCounter) (raw e : ℕ) → read_raw l p c raw ≡ answer e → e ≤ total_of p
