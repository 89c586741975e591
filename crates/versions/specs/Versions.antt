-- "An older table never misleads about a newer stamp": what is asked of two tables, and what is then claimed of the four calls.
-- `NeverMisleads`, at the end, is the whole of it. proofs/Demand3.antt proves it; specs/Needed.antt says that nothing asked, nor the exception, can be left out.
use Rattle.std.specs.Prelude.{ℕ, ◌+◌, ◌-◌, ◌≤◌, ◌<◌, ◌≡◌, true, false, List, [], ◌∷◌, ◌++◌, ltb, ℤ, length, take, drop}
use Rattle.base.specs.Scans.{all, among}
use Rattle.rules.specs.declared.Layout.{Layout}
use Rattle.rules.specs.declared.Reading.{Reading}
use Rattle.rules.specs.declared.TimeOfCount.{TimeOfCount}
use Rattle.rules.specs.declared.CountAtTime.{CountAtTime}
use Rattle.rules.specs.Answer.{Answer, answer, refused, and_then, Numbered}
use Rattle.rules.specs.Layout.{layout_ok, moduli_of, offsets_of, product_of, unit_of}
use Rattle.rules.specs.Partitions.{Partitions, partitions_in, start_of, end_of, total_of, partitions_ok}
use Rattle.rules.specs.Segments.{Segments, segments_in, segments_ok, steps_back}
use Rattle.rules.specs.Stamp.{read_stamp}
use Rattle.rules.specs.Print.{padded, count_print, fitting, print_stamp, length_printed, buffer_after}
use Rattle.rules.specs.Time.{time_of, count_at}

-- "Here a table is a layout, partitions and segments together"
pub record Table : Type 0 where
  pub layout : Layout
  pub partitions : Partitions
  pub segments : Segments

-- "accepted where none of 1, 2 and 3 applies"
pub record Accepted (t : Table) : Type 0 where
  pub layout : layout_ok t.layout ≡ true
  pub partitions : partitions_ok (product_of t.layout) t.partitions ≡ true
  pub segments : segments_ok (unit_of t.layout) (total_of t.partitions) t.segments ≡ true

-- the newer list begins with the older, every number equal
abbrev pub Begins : {A : Type 0} → List A → List A → Type 0
Begins older newer = take (length older) newer ≡ older

-- a table's last partition
abbrev pub last_in : Table → ℕ
last_in t = partitions_in t.partitions - 1

-- What is asked of two accepted tables, each hypothesis by a name.
pub data Hypothesis : Type 0 where
  same-n same_moduli same_offsets same-delimiter : Hypothesis
  kept-starts kept-ends last_end : Hypothesis
  kept-counts kept-times kept-rates further-counts : Hypothesis
  no_step_back : Hypothesis

module _ (older newer : Table) where
  abbrev pub Says : Hypothesis → Type 0
  -- "Two tables have one layout if n, the first n moduli, the first n offsets and the delimiter are equal." Later slots may differ.
  Says same-n = newer.layout.n ≡ older.layout.n
  Says same_moduli = take older.layout.n newer.layout.moduli ≡ moduli_of older.layout
  Says same_offsets = take older.layout.n newer.layout.offsets ≡ offsets_of older.layout
  Says same-delimiter = newer.layout.delimiter ≡ older.layout.delimiter
  -- "its two lists begin with the older's starts and ends; only the end of the older's last partition may be greater in the newer"
  Says kept-starts = Begins older.partitions.starts newer.partitions.starts
  Says kept-ends = Begins (take (last_in older) older.partitions.ends) newer.partitions.ends
  Says last_end = end_of older.partitions (last_in older) ≤ end_of newer.partitions (last_in older)
  -- "It keeps the old segments if its lists begin with the older's, every number equal"
  Says kept-counts = Begins older.segments.counts newer.segments.counts
  Says kept-times = Begins older.segments.times newer.segments.times
  Says kept-rates = Begins older.segments.rates newer.segments.rates
  -- "any further segment has a count above the older's total"
  Says further-counts =
      all (λ c. ltb (total_of older.partitions) c) (drop (segments_in older.segments) newer.segments.counts) ≡ true
  -- "It nowhere steps back."
  Says no_step_back = steps_back (unit_of newer.layout) newer.segments ≡ false

-- "Where the older answers, the newer gives the same answer. Where only the newer answers, the older refuses" with one of these numbers.
pub record Agree {A : Type 0} (numbers : List ℕ) (older newer : Answer A) : Type 0 where
  pub same : (a : A) → older ≡ answer a → newer ≡ answer a
  pub refuses : (a : A) (k : Numbered) → newer ≡ answer a → older ≡ refused k → among k.number numbers ≡ true

-- "the older refuses: a stamp with 10 or 11, a count to print or to turn into time with 12, a time with 14"
abbrev pub older_refuses_stamp : List ℕ
older_refuses_stamp = 10 ∷ 11 ∷ []

abbrev pub older_refuses_count : List ℕ
older_refuses_count = 12 ∷ []

abbrev pub older_refuses_time : List ℕ
older_refuses_time = 14 ∷ []

-- The four calls under a table.
abbrev pub read_by : Table → List ℕ → Answer Reading
read_by t s = read_stamp t.layout t.partitions s

abbrev pub print_by : Table → ℕ → ℕ → Answer (List ℕ)
print_by t e room = print_stamp t.layout t.partitions e room

abbrev pub time_by : Table → ℕ → Answer TimeOfCount
time_by t e = time_of t.layout t.partitions t.segments e

abbrev pub count_by : Table → ℤ → Answer CountAtTime
count_by t time = count_at t.layout t.partitions t.segments time

-- "An answer is all that a call returns .., and for printing the bytes printed as well"
pub record PrintedAnswer : Type 0 where
  pub returned : ℕ
  pub bytes : List ℕ

-- the length that a print returns, and as many bytes from the front of its buffer afterwards
unfoldable pub shown : Answer (List ℕ) → List ℕ → Answer PrintedAnswer
shown r buffer = and_then (length_printed r) (λ n. answer (record { returned = n; bytes = take n (buffer_after r buffer) }))

-- printing e into a lent buffer
abbrev pub printed : Table → ℕ → List ℕ → Answer PrintedAnswer
printed t e buffer = shown (print_by t e (length buffer)) buffer

-- the stamp of the clock's count c in partition i, numbered from 1
abbrev pub stamp_text : Table → ℕ → ℕ → List ℕ
stamp_text t i c = padded 1 (i + 1) ++ (47 ∷ count_print t.layout c)

-- "the older prints the end of its last partition"
abbrev pub older_print : Table → List ℕ
older_print older = stamp_text older (last_in older) (end_of older.partitions (last_in older))

-- "the newer the start of the one after it"
abbrev pub newer_print : Table → Table → List ℕ
newer_print older newer = stamp_text newer (last_in older + 1) (start_of newer.partitions (last_in older + 1))

module _ (older newer : Table) where
  -- "printing the older's total, where the older's last partition kept its end and a partition was added"
  pub record Exception (e : ℕ) : Type 0 where
    pub total : e ≡ total_of older.partitions
    pub kept_end : end_of newer.partitions (last_in older) ≡ end_of older.partitions (last_in older)
    pub added : partitions_in older.partitions < partitions_in newer.partitions

  -- "In the one exception each table prints the older's total .., or refuses 16": two prints, and never the same.
  pub record Apart (e : ℕ) : Type 0 where
    pub older_prints : (room : ℕ) → print_by older e room ≡ fitting room (older_print older)
    pub newer_prints : (room : ℕ) → print_by newer e room ≡ fitting room (newer_print older newer)
    pub differ : older_print older ≡ newer_print older newer → ⊥

  -- "Then ask both the same, in any of those four directions, whatever the stamp, count or time."
  pub record Demand3 : Type 0 where
    pub reading : (s : List ℕ) → Agree older_refuses_stamp (read_by older s) (read_by newer s)
    -- "for printing two buffers of one length, whatever they hold"
    pub printing : (e : ℕ) (b c : List ℕ) → length b ≡ length c → (Exception e → ⊥) → Agree older_refuses_count (printed older e b) (printed newer e c)
    pub exception : (e : ℕ) → Exception e → Apart e
    pub time_of_lem : (e : ℕ) → Agree older_refuses_count (time_by older e) (time_by newer e)
    pub count_at_lem : (t : ℤ) → Agree older_refuses_time (count_by older t) (count_by newer t)

-- "Take any two accepted tables with one layout, an older and a newer." The whole demand.
abbrev pub NeverMisleads : Type 0
NeverMisleads = (older newer : Table) → Accepted older → Accepted newer → ((h : Hypothesis) → Says older newer h) → Demand3 older newer
