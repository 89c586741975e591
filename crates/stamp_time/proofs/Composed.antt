-- The two definitions one after the other, by the ways out of the code.
use Rattle.rules.specs.declared.refusal.Refusal.{Refusal}
use Rattle.std.specs.Prelude.{Result, Ok, Err}
use Rattle.layouts.specs.declared.Measured.{Measured}
use Prim.Native.Nat.{ℕ}
use mathlib.Core.Path.{◌≡◌, refl, sym, ap, ◌∙◌}
use mathlib.Core.List.{List}
use Rattle.rules.specs.declared.Layout.{Layout}
use Rattle.rules.specs.declared.Reading.{Reading}
use Rattle.rules.specs.declared.TimeOfCount.{TimeOfCount}
use Rattle.rules.specs.declared.TimedStamp.{TimedStamp}
use Rattle.rules.specs.Answer.{Answer, answer, refused, unless_at, and_then, timed_stamp, Numbered, as_numbered, answer_of}
use Rattle.rules.specs.Layout.{moduli_of, offsets_of, unit_of}
use Rattle.rules.specs.Partitions.{Partitions, total_of}
use Rattle.rules.specs.Segments.{Segments, segments_fault}
use Rattle.rules.specs.Facts.{SegmentsFacts}
use Rattle.rules.specs.Stamp.{parse_stamp, encode, read_stamp}
use Rattle.rules.specs.Accepted.{accepted}
use Rattle.rules.specs.Time.{time_in, time_of}
use Rattle.rules.specs.StampTime.{with_time, time_of_stamp, time_of_message}
use Rattle.rules.proofs.Accepted.{segments_facts}
use Rattle.rules.proofs.Answers.{unless-at-none}
use Rattle.layouts.specs.Measure.{measure_of}
use Rattle.segments.specs.Rows.{accepted_segments}
use Rattle.tables.specs.declared.Basis.{Basis}
use Rattle.tables.specs.Accept.{stamps_basis, BasisFacts}
use Rattle.tables.proofs.Accepted.{stamps_facts, stamps_accepted}
use Rattle.tables.proofs.Guards.{then-unless-at}
use Rattle.rules.specs.Message.{accepted_message, text_in, read_message}
use Rattle.message.specs.Part.{start_in}
use Rattle.message.proofs.Trailer.{then-accepted, start_refused, start_accepted}
use Rattle.text.proofs.Calls.{stamp_refused, stamp_accepted}

-- 3, or the time of e
abbrev checked_time : ℕ → ℕ → Segments → ℕ → Answer TimeOfCount
checked_time unit total g e = unless_at 3 (segments_fault unit total g) (time_in unit total g e)

-- `timed`: the segments' check answered c
module _ (unit total : ℕ) (g : Segments) (e : ℕ) (c : Result (Unit {0}) Refusal) (v : answer_of c ≡ accepted_segments unit total g) where
  after_check : and_then (answer_of c) (λ _. time_in unit total g e) ≡ checked_time unit total g e
  unfolding accepted_segments and_then
  after_check = rw v (then-unless-at 3 (segments_fault unit total g) (answer tt) (λ _. time_in unit total g e))

  pub segments_out : (k : Refusal) → c ≡ Err k → refused (as_numbered k) ≡ with_time e (checked_time unit total g e)
  unfolding with_time and_then
  segments_out k h = ap (with_time e) (rw h at after_check)

  module _ (h : c ≡ Ok tt) where
    pub rows : SegmentsFacts unit total g
    unfolding accepted_segments
    rows = segments_facts unit total g (rw (unless-at-none 3 (segments_fault unit total g) (answer tt) tt (rw h at (sym v))))

    module _ (a : Result TimeOfCount Refusal) (q : answer_of a ≡ time_in unit total g e) where
      after-time : with_time e (answer_of a) ≡ with_time e (checked_time unit total g e)
      unfolding and_then
      after-time = ap (with_time e) (q ∙ (rw h at after_check))

      pub time_out : (k : Refusal) → a ≡ Err k → refused (as_numbered k) ≡ with_time e (checked_time unit total g e)
      unfolding with_time and_then
      time_out k w = rw w at after-time

      pub time_given : (t : TimeOfCount) → a ≡ Ok t → answer (timed_stamp e t.time) ≡ with_time e (checked_time unit total g e)
      unfolding with_time and_then
      time_given t w = rw w at after-time

module _ (l : Layout) (p : Partitions) (g : Segments) (s : List ℕ) where
  -- what reading refuses is passed on
  unread : (k : Numbered) → refused k ≡ read_stamp l p s → refused k ≡ time_of_stamp l p g s
  unfolding time_of_stamp and_then
  unread k e = rw (← e)

  read : (r : Reading) → answer r ≡ read_stamp l p s → with_time r.count (time_of l p g r.count) ≡ time_of_stamp l p g s
  unfolding time_of_stamp and_then
  read r e = rw (← e)

  module _ (m : Result Measured Refusal) (w : answer_of m ≡ measure_of l) (q : Result Basis Refusal) (f : answer_of q ≡ and_then (answer_of m) (stamps_basis p)) where
    pub tables_out : (k : Refusal) → q ≡ Err k → refused (as_numbered k) ≡ time_of_stamp l p g s
    tables_out k h = unread (as_numbered k) (stamp_refused l m w p q f s k h)

    module _ (b : Basis) (h : q ≡ Ok b) (a : Result Reading Refusal) (v : answer_of a ≡ and_then (parse_stamp (moduli_of l) (offsets_of l) s) (encode p)) where
      was_read : answer_of a ≡ read_stamp l p s
      was_read = stamp_accepted l m w p q f b h s (answer_of a) v

      pub reading_out : (k : Refusal) → a ≡ Err k → refused (as_numbered k) ≡ time_of_stamp l p g s
      reading_out k x = unread (as_numbered k) (rw x at was_read)

      timed_is : (e : ℕ) → checked_time b.unit b.total g e ≡ time_of l p g e
      unfolding time_of accepted
      timed_is e =
          let n = stamps_facts l p m w q f b h in
          rw (n.unit, n.total) (stamps_accepted l p m w q f b h _ (checked_time (unit_of l) (total_of p) g e) refl)

      pub stamp_timed : (r : Reading) (x : Answer TimedStamp) → a ≡ Ok r → x ≡ with_time r.count (checked_time b.unit b.total g r.count) → x ≡ time_of_stamp l p g s
      stamp_timed r x y z = z ∙ ap (with_time r.count) (timed_is r.count) ∙ read r (rw y at was_read)

    pub numbers : (b : Basis) → q ≡ Ok b → BasisFacts b.unit b.total
    numbers b h = (stamps_facts l p m w q f b h).numbers

-- `time_of_message`, after `answer_of` answered r
module _ (l : Layout) (p : Partitions) (g : Segments) (m : List ℕ) (r : Result ℕ Refusal) (e : answer_of r ≡ start_in m) where
  guarded : accepted_message m (time_of_stamp l p g (text_in m)) ≡ time_of_message l p g m
  unfolding time_of_message time_of_stamp read_message
  guarded = sym (then-accepted m (read_stamp l p (text_in m)) (λ x. with_time x.count (time_of l p g x.count)))

  pub message_out : (k : Refusal) → r ≡ Err k → refused (as_numbered k) ≡ time_of_message l p g m
  message_out k h = start_refused m r e k _ h ∙ guarded

  pub message_timed : (i : ℕ) (s : List ℕ) (x : Answer TimedStamp) → r ≡ Ok i → s ≡ text_in m → x ≡ time_of_stamp l p g s → x ≡ time_of_message l p g m
  message_timed i s x h t q = start_accepted m r e i h x _ (q ∙ rw t) ∙ guarded
