-- A table that nowhere steps back does not at the seam.
use Prim.Native.Nat.{ℕ, ◌+◌}
use native.Mathlib.Omega.{arith}
use mathlib.Core.Path.{◌≡◌}
use mathlib.Core.Bool.{false}
use borrow.Author.Tests.{ltb-true}
use Rattle.base.proofs.Tests.{by_test, and_out_first}
use Rattle.base.proofs.Scans.{some_none}
use Rattle.rules.specs.Layout.{unit_of}
use Rattle.rules.specs.Segments.{Segments, segments_in, has_next, steps_back_at, steps_back}
use Rattle.versions.specs.Versions.{Table, Hypothesis, Says}
use Rattle.versions.specs.Versions.{same-n, same_moduli, same_offsets, same-delimiter, kept-starts, kept-ends, last_end, kept-counts, kept-times, kept-rates, further-counts, no_step_back}
use Rattle.versions.specs.Seam.{seam_of, SaysAtSeam}

pub nowhere_at : (unit : ℕ) (g : Segments) (i : ℕ) → steps_back unit g ≡ false → steps_back_at unit g i ≡ false
unfolding steps_back steps_back_at
nowhere_at unit g i h =
    by_test (has_next g.counts i)
    (λ y. some_none (steps_back_at unit g) (segments_in g) i h (omega (arith, ltb-true (i + 1) (segments_in g) y)))
    (λ f. and_out_first _ f)

pub says_at_seam : (older newer : Table) → ((h : Hypothesis) → Says older newer h) → (h : Hypothesis) → SaysAtSeam older newer h
says_at_seam older newer says same-n = says same-n
says_at_seam older newer says same_moduli = says same_moduli
says_at_seam older newer says same_offsets = says same_offsets
says_at_seam older newer says same-delimiter = says same-delimiter
says_at_seam older newer says kept-starts = says kept-starts
says_at_seam older newer says kept-ends = says kept-ends
says_at_seam older newer says last_end = says last_end
says_at_seam older newer says kept-counts = says kept-counts
says_at_seam older newer says kept-times = says kept-times
says_at_seam older newer says kept-rates = says kept-rates
says_at_seam older newer says further-counts = says further-counts
says_at_seam older newer says no_step_back = nowhere_at (unit_of newer.layout) newer.segments (seam_of older) (says no_step_back)
