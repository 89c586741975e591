-- What a call answers: a value, or a refusal, which is a number of the table "What is refused" and, for some, a place.
use Rattle.std.specs.Prelude.{ℕ, Bool, true, false, ℤ, Some, None, Result, Ok, Err}
use Rattle.std.specs.Prelude.{Option as Place}
use Rattle.std.proofs.Math.Option.{Option, none, some}
use Rattle.rules.specs.declared.refusal.Refusal.{Refusal}
use Rattle.rules.specs.declared.refusal.Refusal.TheVariants as R
use Rattle.rules.specs.declared.Reading.{Reading}
use Rattle.rules.specs.declared.TimeOfCount.{TimeOfCount}
use Rattle.rules.specs.declared.CountAtTime.{CountAtTime}
use Rattle.rules.specs.declared.TimedStamp.{TimedStamp}

-- A refusal by its number, and its place from 0.
pub record Numbered : Type 0 where
  pub number : ℕ
  pub place : Place ℕ

pub data Answer (A : Type 0) : Type 0 where
  answer : A → Answer A
  refused : Numbered → Answer A

-- without a place, and at the place i
abbrev pub numbered : ℕ → Numbered
numbered k = record { number = k; place = None }

abbrev pub placed : ℕ → ℕ → Numbered
placed k i = record { number = k; place = Some i }

-- A rule that is to hold at the place i: it fails there, or nowhere.
unfoldable pub fails_at : ℕ → Bool → Option ℕ
fails_at i true = none
fails_at i false = some i

module _ {A : Type 0} where
  -- refused with the number k, without a place and at the place i
  abbrev pub refuse : ℕ → Answer A
  refuse k = refused (numbered k)

  abbrev pub refuse_at : ℕ → ℕ → Answer A
  refuse_at k i = refused (placed k i)

  -- "A refusal is given exactly then": what follows where the test holds, and refused k otherwise
  unfoldable pub unless : ℕ → Bool → Answer A → Answer A
  unless k true a = a
  unless k false a = refuse k

  -- The same where a place is given: what follows where nothing fails, and refused k at the place that fails.
  unfoldable pub unless_at : ℕ → Option ℕ → Answer A → Answer A
  unless_at k none a = a
  unless_at k (some i) a = refuse_at k i

-- a refusal is passed on; a value goes to the next step
unfoldable pub and_then : {A B : Type 0} → Answer A → (A → Answer B) → Answer B
and_then (answer a) f = f a
and_then (refused k) f = refused k

-- What the calls give, by the numbers in it.
abbrev pub reading : ℕ → Reading
reading c = record { count = c }

abbrev pub time_of_count : ℤ → TimeOfCount
time_of_count t = record { time = t }

abbrev pub count_at_time : ℕ → CountAtTime
count_at_time c = record { count = c }

abbrev pub timed_stamp : ℕ → ℤ → TimedStamp
timed_stamp c t = record { count = c; time = t }

-- The number and the place of each refusal of the code.
abbrev pub number_of : Refusal → ℕ
number_of R.Layout = 1
number_of (R.Partitions row) = 2
number_of (R.Segments row) = 3
number_of R.TextTooLong = 4
number_of (R.ByteNotAllowed at) = 5
number_of R.FirstFieldMissing = 6
number_of (R.TooManyFields at) = 7
number_of (R.FieldBelowOffset at) = 8
number_of (R.TooLarge at) = 9
number_of R.CountTooLarge = 9
number_of R.NoSuchPartition = 10
number_of R.OutsidePartition = 11
number_of R.BeyondTotal = 12
number_of R.BeforeFirstSegment = 13
number_of R.TimeOutOfRange = 14
number_of R.DoubleForm = 15
number_of R.BufferTooShort = 16
number_of R.FirstLine = 18
number_of R.Assignment = 19
number_of R.NotExact = 20
number_of R.NoTrailer = 21
number_of R.NoText = 22
number_of R.WrongDistance = 23
number_of R.TooManyMicroseconds = 24
number_of R.PacketLength = 25
number_of R.PacketForm = 26
number_of R.NeverReset = 27
number_of (R.Unlisted k) = k.number

abbrev pub place_of : Refusal → Place ℕ
place_of R.Layout = None
place_of (R.Partitions row) = Some row
place_of (R.Segments row) = Some row
place_of R.TextTooLong = None
place_of (R.ByteNotAllowed at) = Some at
place_of R.FirstFieldMissing = None
place_of (R.TooManyFields at) = Some at
place_of (R.FieldBelowOffset at) = Some at
place_of (R.TooLarge at) = Some at
place_of R.CountTooLarge = None
place_of R.NoSuchPartition = None
place_of R.OutsidePartition = None
place_of R.BeyondTotal = None
place_of R.BeforeFirstSegment = None
place_of R.TimeOutOfRange = None
place_of R.DoubleForm = None
place_of R.BufferTooShort = None
place_of R.FirstLine = None
place_of R.Assignment = None
place_of R.NotExact = None
place_of R.NoTrailer = None
place_of R.NoText = None
place_of R.WrongDistance = None
place_of R.TooManyMicroseconds = None
place_of R.PacketLength = None
place_of R.PacketForm = None
place_of R.NeverReset = None
place_of (R.Unlisted k) = k.place

abbrev pub as_numbered : Refusal → Numbered
as_numbered k = record { number = number_of k; place = place_of k }

-- What a call's result says: `answer_as` where the answer is told by f, `answer_of` where it is the value.
abbrev pub answer_as : {A B : Type 0} → (A → B) → Result A Refusal → Answer B
answer_as f (Ok a) = answer (f a)
answer_as f (Err k) = refused (as_numbered k)

abbrev pub answer_of : {A : Type 0} → Result A Refusal → Answer A
answer_of = answer_as (λ a. a)
