-- Nothing that `count` and `moved` of History ask can be left out.
use Rattle.std.specs.Prelude.{ℕ, ◌≡◌, true, false, List, [], ◌∷◌, map}
use Rattle.rules.specs.Examples.{layout_a, partitions_a}
use Rattle.raw_rules.specs.declared.RawCounter.{RawCounter}
use Rattle.raw_rules.specs.Calls.{Call, after_calls}
use Rattle.raw_rules.specs.Examples.{long_layout, long_partitions, new, at, reset_a, reading_a, reading_long}
use Rattle.raw_outcomes.specs.History.{Around, calls_of, reset_accepted, reset_since, accepted_since, reset_start, counted, Track, Hypothesis, reset_low, readings_low, rises, short, Says, added_up, moved_by, track_of}

-- a reset under the long table and readings since, and where a true counter stood at each
abbrev pub long : ℕ → List ℕ → Around
long raw raws = record { before = []; layout = long_layout; partitions = long_partitions; number = 1; raw = raw; since = map reading_long raws }

abbrev pub track : ℕ → List ℕ → ℕ → List ℕ → Track
track raw raws at_reset at_readings = track_of (new 0 0) (long raw raws) at_reset at_readings

-- a raw number that is not the counter's, at the reset or at a reading; a counter that goes back; "a move of exactly 2^32"
unfoldable pub breaking : Hypothesis → Track
breaking reset_low = track 1 (2 ∷ []) 0 (2 ∷ [])
breaking readings_low = track 0 (1 ∷ []) 0 (2 ∷ [])
breaking rises = track 1 (0 ∷ []) 1 (0 ∷ [])
breaking short = track 7 (7 ∷ []) 7 (4_294_967_303 ∷ [])

-- t shows that the hypothesis h is needed: it meets every other one but not h, and the differences do not add up to what the counter moved.
pub record Needed (h : Hypothesis) (t : Track) : Type 0 where
  pub others : (k : Hypothesis) → (k ≡ h → ⊥) → Says t k
  pub broken : Says t h → ⊥
  pub fails : added_up t ≡ moved_by t → ⊥

-- They can all be met, also by a counter that rolls over more than once.
unfoldable pub rolling : Track
rolling = track 1 (0 ∷ 0 ∷ 4_294_967_295 ∷ 3 ∷ []) 4_294_967_297 (8_589_934_592 ∷ 8_589_934_592 ∷ 12_884_901_887 ∷ 12_884_901_891 ∷ [])

pub record Met : Type 0 where
  pub says : (h : Hypothesis) → Says rolling h
  pub adds_up : added_up rolling ≡ 8_589_934_594
  pub moved : moved_by rolling ≡ 8_589_934_594

-- under table A
abbrev pub around : ℕ → ℕ → List Call → Around
around number raw since = record { before = []; layout = layout_a; partitions = partitions_a; number = number; raw = raw; since = since }

-- a reset that is refused, and one that another follows
abbrev pub not_accepted : Around
not_accepted = around 3 0 (reading_a 8 ∷ [])

abbrev pub not_last : Around
not_last = around 1 0 (reset_a 2 0 ∷ [])

-- the count of the formula, from the counter with raw number 7 and count 70
abbrev pub formula : Around → RawCounter
formula s = counted s.raw (reset_start s) (accepted_since (at 7 70) s)

-- the count is another where the reset is not accepted, and where it is not the last
pub record ResetNeeded : Type 0 where
  pub not_accepted_lem : (reset_accepted not_accepted ≡ false) × (reset_since not_accepted ≡ false)
  pub not_accepted_count : (after_calls (at 7 70) (calls_of not_accepted) ≡ at 8 71) × ((formula not_accepted).count ≡ 1_208)
  pub not_last_lem : (reset_accepted not_last ≡ true) × (reset_since not_last ≡ true)
  pub not_last_count : (after_calls (at 7 70) (calls_of not_last) ≡ at 0 500) × ((formula not_last).count ≡ 0)
