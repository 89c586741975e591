-- From what `accept` answers to the two public calls.
use Rattle.rules.specs.declared.refusal.Refusal.{Refusal}
use Rattle.std.specs.Prelude.{Result, Ok, Err}
use Rattle.layouts.specs.declared.Measured.{Measured}
use Prim.Native.Nat.{ℕ}
use mathlib.Core.Path.{◌≡◌, ◌∙◌}
use lib.IntN.{ℤ}
use mir.Syntax.{w64}
use mir.Val.{SFits, to_z, of_z}
use mir.Facts.{to_z-of_z}
use Rattle.rules.specs.declared.Layout.{Layout}
use Rattle.rules.specs.declared.TimeOfCount.{TimeOfCount}
use Rattle.rules.specs.declared.CountAtTime.{CountAtTime}
use Rattle.rules.specs.Answer.{Answer, refused, and_then, as_numbered, answer_of}
use Rattle.rules.specs.Partitions.{Partitions}
use Rattle.rules.specs.Segments.{Segments}
use Rattle.rules.specs.Facts.{SegmentsFacts}
use Rattle.rules.specs.Time.{time_in, time_of, count_in, count_at}
use Rattle.layouts.specs.Measure.{measure_of}
use Rattle.tables.specs.declared.Basis.{Basis}
use Rattle.tables.specs.Accept.{table_basis, BasisFacts}
use Rattle.tables.proofs.Accepted.{table_refused, table_facts, table_accepted}

module _ (l : Layout) (m : Result Measured Refusal) (w : answer_of m ≡ measure_of l) (p : Partitions) (g : Segments) (r : Result Basis Refusal) (e : answer_of r ≡ and_then (answer_of m) (table_basis p g)) where
  pub time_refused : (k : Refusal) (n : ℕ) → r ≡ Err k → refused (as_numbered k) ≡ time_of l p g n
  unfolding time_of
  time_refused k n h = table_refused l p m w r g e k _ h

  pub count_refused : (k : Refusal) (t : ℤ) → r ≡ Err k → refused (as_numbered k) ≡ count_at l p g t
  unfolding count_at
  count_refused k t h = table_refused l p m w r g e k _ h

  module _ (b : Basis) (h : r ≡ Ok b) where
    pub numbers : BasisFacts b.unit b.total
    numbers = (table_facts l p m w r g e b h).stamps.numbers

    pub rows : SegmentsFacts b.unit b.total g
    rows = (table_facts l p m w r g e b h).segments

    pub time_accepted : (n : ℕ) (x : Answer TimeOfCount) → x ≡ time_in b.unit b.total g n → x ≡ time_of l p g n
    unfolding time_of
    time_accepted n x q =
        let f = (table_facts l p m w r g e b h).stamps in
        table_accepted l p m w r g e b h x _ (q ∙ rw (f.unit, f.total))

    -- a time is its bits at a call
    pub count_accepted : (t : ℤ) (x : Answer CountAtTime) → SFits w64 t → x ≡ count_in b.unit b.total g (to_z w64 (of_z w64 t)) → x ≡ count_at l p g t
    unfolding count_at
    count_accepted t x s q =
        let f = (table_facts l p m w r g e b h).stamps in
        table_accepted l p m w r g e b h x _ (q ∙ rw (to_z-of_z s, f.unit, f.total))
