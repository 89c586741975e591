-- "Of 'it nowhere steps back' only the last kept row's seam is needed." Demand 3 stays as it is; this stands beside it.
-- proofs/Demand3.antt proves `NeverMisleadsAtSeam`, and demand 3 from it.
use Rattle.std.specs.Prelude.{ℕ, ◌-◌, ◌≡◌, false}
use Rattle.rules.specs.Layout.{unit_of}
use Rattle.rules.specs.Segments.{segments_in, steps_back_at}
use Rattle.versions.specs.Versions.{Table, Accepted, Hypothesis, Says, Demand3}
use Rattle.versions.specs.Versions.{same-n, same_moduli, same_offsets, same-delimiter, kept-starts, kept-ends, last_end, kept-counts, kept-times, kept-rates, further-counts, no_step_back}

-- the last row that the older has: where a further segment is added
abbrev pub seam_of : Table → ℕ
seam_of older = segments_in older.segments - 1

module _ (older newer : Table) where
  -- every hypothesis of demand 3, the last one asked of the seam alone
  abbrev pub SaysAtSeam : Hypothesis → Type 0
  SaysAtSeam same-n = Says older newer same-n
  SaysAtSeam same_moduli = Says older newer same_moduli
  SaysAtSeam same_offsets = Says older newer same_offsets
  SaysAtSeam same-delimiter = Says older newer same-delimiter
  SaysAtSeam kept-starts = Says older newer kept-starts
  SaysAtSeam kept-ends = Says older newer kept-ends
  SaysAtSeam last_end = Says older newer last_end
  SaysAtSeam kept-counts = Says older newer kept-counts
  SaysAtSeam kept-times = Says older newer kept-times
  SaysAtSeam kept-rates = Says older newer kept-rates
  SaysAtSeam further-counts = Says older newer further-counts
  -- "the last kept row's seam"
  SaysAtSeam no_step_back = steps_back_at (unit_of newer.layout) newer.segments (seam_of older) ≡ false

abbrev pub NeverMisleadsAtSeam : Type 0
NeverMisleadsAtSeam = (older newer : Table) → Accepted older → Accepted newer → ((h : Hypothesis) → SaysAtSeam older newer h) → Demand3 older newer
