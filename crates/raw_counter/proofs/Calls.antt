-- What each way out of the two calls says of the answer, and of the counter afterwards.
use Rattle.rules.specs.declared.refusal.Refusal.{Refusal}
use Rattle.std.specs.Prelude.{Result, Ok, Err}
use Rattle.layouts.specs.declared.Measured.{Measured}
use Rattle.std.proofs.Common.{◌≡◌, ℕ, ◌+◌, ◌-◌, ◌&&◌, leb}
use Rattle.rules.specs.declared.Layout.{Layout}
use Rattle.rules.specs.Answer.{Answer, answer, refused, unless, and_then, as_numbered, answer_of}
use Rattle.rules.specs.Layout.{product_of}
use Rattle.rules.specs.Partitions.{Partitions, partitions_in, lengths_before}
use Rattle.layouts.specs.Measure.{measure_of}
use Rattle.tables.specs.declared.Basis.{Basis}
use Rattle.tables.specs.Accept.{stamps_basis}
use Rattle.tables.proofs.Accepted.{stamps_refused, stamps_facts, stamps_accepted}
use Rattle.encode.specs.Listed.{Listed}
use Rattle.encode.proofs.Sums.{listed}
use Rattle.raw_rules.specs.declared.RawCounter.{RawCounter}
use Rattle.raw_rules.specs.Counter.{raw_difference, reset_raw, not_past, read_raw}

module _ (l : Layout) (p : Partitions) (m : Result Measured Refusal) (e : answer_of m ≡ measure_of l) (q : Result Basis Refusal) (f : answer_of q ≡ and_then (answer_of m) (stamps_basis p)) where
  module _ (k : Refusal) (h : q ≡ Err k) where
    pub reset_refused : (number : ℕ) → refused (as_numbered k) ≡ reset_raw l p number
    unfolding reset_raw
    reset_refused number = stamps_refused l p m e q f k _ h

    pub read_refused : (c : RawCounter) (raw : ℕ) → refused (as_numbered k) ≡ read_raw l p c raw
    unfolding read_raw
    read_refused c raw = stamps_refused l p m e q f k _ h

  module _ (b : Basis) (h : q ≡ Ok b) where
    pub reset_listed : Listed p
    reset_listed = listed (product_of l) p (stamps_facts l p m e q f b h).partitions

    pub reset_accepted : (number : ℕ) (a : Answer ℕ) → a ≡ unless 10 (leb 1 number && leb number (partitions_in p)) (answer (lengths_before p (number - 1))) → a ≡ reset_raw l p number
    unfolding reset_raw
    reset_accepted number a g = stamps_accepted l p m e q f b h a _ g

    pub read_accepted : (c : RawCounter) (raw : ℕ) (a : Answer ℕ) → a ≡ unless 27 c.started (not_past b.total (c.count + raw_difference raw c.raw)) → a ≡ read_raw l p c raw
    unfolding read_raw
    read_accepted c raw a g = stamps_accepted l p m e q f b h a _ (rw (stamps_facts l p m e q f b h).total at g)
