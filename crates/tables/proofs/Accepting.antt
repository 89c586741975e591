-- What each way out of `accept_stamps`, `accept` and `steps_back` says of the tables.
use Rattle.rules.specs.declared.refusal.Refusal.{Refusal}
use Rattle.std.specs.Prelude.{Result, Ok, Err}
use Prim.Native.Nat.{◌≤◌}
use mathlib.Core.Path.{◌≡◌, refl, sym, ◌∙◌, ap}
use mathlib.Core.Bool.{Bool}
use Rattle.rules.specs.declared.Layout.{Layout}
use Rattle.rules.specs.Answer.{answer, refused, and_then, as_numbered, answer_of}
use Rattle.rules.specs.Layout.{unit_of}
use Rattle.rules.specs.Partitions.{Partitions, partitions_fault}
use Rattle.rules.specs.Segments.{Segments, steps_back}
use Rattle.rules.specs.Time.{steps_back_in}
use Rattle.rules.proofs.Answers.{payload, not_answer, unless-at-rest}
use Rattle.layouts.specs.declared.Measured.{Measured}
use Rattle.layouts.specs.Measure.{measure_of, InLimits}
use Rattle.segments.specs.Rows.{Rising}
use Rattle.tables.specs.declared.Basis.{Basis}
use Rattle.tables.specs.Accept.{stamps_basis, table_basis}
use Rattle.tables.proofs.Accepted.{table_refused, table_facts, table_accepted}

-- the unit of a basis may divide
pub unit_divides : (measured : Result Measured Refusal) (p : Partitions) (a : Result Basis Refusal) → InLimits measured → answer_of a ≡ and_then (answer_of measured) (stamps_basis p) → (b : Basis) → a ≡ Ok b → 1 ≤ b.unit
unfolding and_then stamps_basis
unit_divides (Ok m) p a w e b h =
    let same = payload (unless-at-rest 2 (partitions_fault m.product p) _ b (rw h at (sym e))) in
    rw (← same) (w.unit m refl).low
unit_divides (Err k) p a w e b h = absurd (not_answer (rw h at (sym e)))

-- `steps_back`, after `accept` answered a
module _ (l : Layout) (m : Result Measured Refusal) (w : answer_of m ≡ measure_of l) (p : Partitions) (g : Segments) (a : Result Basis Refusal) (e : answer_of a ≡ and_then (answer_of m) (table_basis p g)) where
  pub table_out : (k : Refusal) → a ≡ Err k → refused (as_numbered k) ≡ steps_back_in l p g
  unfolding steps_back_in
  table_out k h = table_refused l p m w a g e k (answer (steps_back (unit_of l) g)) h

  module _ (b : Basis) (h : a ≡ Ok b) where
    pub rising_table : Rising g
    rising_table =
        let f = (table_facts l p m w a g e b h).segments in
        record { times_length = f.times_length; rates_length = f.rates_length; some = f.some; grow = f.grow }

    pub table_unit : 1 ≤ b.unit
    table_unit = (table_facts l p m w a g e b h).stamps.numbers.divides.low

    pub stepped : (t s : Bool) → t ≡ steps_back b.unit g → t ≡ s → answer s ≡ steps_back_in l p g
    unfolding steps_back_in
    stepped t s v q =
        table_accepted l p m w a g e b h (answer s) (answer (steps_back (unit_of l) g)) (ap answer (sym q ∙ v ∙ rw (table_facts l p m w a g e b h).stamps.unit))
