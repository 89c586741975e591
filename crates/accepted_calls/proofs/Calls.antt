-- Under accepted tables a public call is what follows its checks.
use Rattle.rules.specs.declared.refusal.Refusal.TheVariants as R
use Rattle.rules.specs.declared.refusal.Refusal.{Refusal}
use Rattle.std.specs.Prelude.{Result, Ok, Err}
use Prim.Native.Nat.{ℕ, ◌+◌, ◌≤◌, ◌<◌}
use mathlib.Core.Path.{◌≡◌, refl, sym, ap, ◌∙◌}
use mathlib.Core.List.{List, ◌∷◌, ◌++◌}
use lib.IntN.{ℤ}
use lib.Dec.{leb}
use mir.Syntax.{w64}
use mir.Val.{SFits, to_z, of_z}
use mir.Facts.{to_z-of_z}
use borrow.Author.Tests.{le-leb, lt-leb}
use Rattle.base.proofs.Scans.{nothing}
use Rattle.rules.specs.declared.Layout.{Layout}
use Rattle.rules.specs.declared.Reading.{Reading}
use Rattle.rules.specs.declared.TimedStamp.{TimedStamp}
use Rattle.rules.specs.declared.CountAtTime.{CountAtTime}
use Rattle.rules.specs.Answer.{Answer, answer, refused, refuse, unless, unless_at, and_then, as_numbered, answer_of}
use Rattle.rules.specs.Limits.{most_partitions, most_fields}
use Rattle.rules.specs.Layout.{moduli_of, offsets_of, product_of, unit_of}
use Rattle.rules.specs.Partitions.{Partitions, total_of, partitions_fault}
use Rattle.rules.specs.Segments.{Segments, segments_fault}
use Rattle.rules.specs.Facts.{SegmentsFacts}
use Rattle.rules.specs.Accepted.{accepted_stamps, accepted}
use Rattle.rules.specs.Stamp.{parse_stamp, encode, read_stamp}
use Rattle.rules.specs.Message.{accepted_message, text_in, read_message}
use Rattle.rules.specs.Print.{padded, count_print, stamp_print, fitting, partition_of, decoded_in, print_stamp, length_printed, buffer_after}
use Rattle.rules.specs.Time.{time_in, time_of, count_in, count_at}
use Rattle.rules.specs.StampTime.{with_time, time_of_stamp, time_of_message}
use Rattle.rules.proofs.Accepted.{layout_accepted, partitions_accepted, segments_accepted}
use Rattle.tables.specs.declared.Basis.{Basis}
use Rattle.tables.specs.Accept.{BasisFacts, StampsFacts, TableFacts}
use Rattle.tables.proofs.Guards.{passed, passed_at}
use Rattle.buffer_print.specs.Printed.{Printed}
use Rattle.encode.specs.Listed.{Listed}
use Rattle.encode.proofs.Sums.{listed}
use Rattle.decode.specs.Decodable.{Decodable}
use Rattle.decode.proofs.Accepted.{decodable, partition_few, count_below}
use Rattle.message.specs.Part.{start_in}
use Rattle.message.proofs.Trailer.{then-accepted, start_refused, start_accepted}

module _ (l : Layout) (p : Partitions) (b : Basis) (f : StampsFacts l p b) where
  pub stamps_pass : {A : Type 0} (a : Answer A) → a ≡ accepted_stamps l p a
  stamps_pass a =
      passed 1 _ (unless_at 2 (partitions_fault (product_of l) p) a) a (layout_accepted l f.layout)
      (passed_at 2 _ a a (nothing (partitions_fault (product_of l) p) (partitions_accepted (product_of l) p f.partitions)) refl)

  -- printing
  module _ (e room : ℕ) where
    print_next : print_stamp l p e room ≡ unless 12 (leb e (total_of p)) (fitting room (stamp_print l p e))
    unfolding print_stamp
    print_next = sym (stamps_pass (unless 12 (leb e (total_of p)) (fitting room (stamp_print l p e))))

    above : b.total < e → print_stamp l p e room ≡ refuse 12
    unfolding unless
    above h = print_next ∙ rw (lt-leb e (total_of p) (rw f.total at h))

    pub print_above : (buffer : List ℕ) → b.total < e → Printed (print_stamp l p e room) (Err R.BeyondTotal) buffer buffer
    unfolding length_printed buffer_after
    print_above buffer h = record { answers = rw (above h); bytes = rw (above h) }

    module _ (h : e ≤ b.total) where
      held : e ≤ total_of p
      held = rw f.total at h

      pub print_decodable : Decodable p e
      print_decodable = decodable (product_of l) p e f.layout.product f.partitions held

      pub print_few : (partition : ℕ) → partition ≡ partition_of p e → partition < most_partitions
      print_few = partition_few (product_of l) p e f.layout.product f.partitions held

      pub print_below : (count : ℕ) → count ≡ decoded_in p e (partition_of p e) → count < product_of l
      print_below = count_below (product_of l) p e f.layout.product f.partitions held

      pub print_printed : (partition count : ℕ) → partition ≡ partition_of p e → count ≡ decoded_in p e (partition_of p e) → (r : Result ℕ Refusal) (entry exit : List ℕ)
          → Printed (fitting room (padded 1 (partition + 1) ++ (47 ∷ count_print l count))) r entry exit → Printed (print_stamp l p e room) r entry exit
      unfolding unless stamp_print
      print_printed partition count ep ec r entry exit x = rw (print_next, le-leb e (total_of p) held) (rw (ec, ep) at x)

module _ (l : Layout) (p : Partitions) (g : Segments) (b : Basis) (f : TableFacts l p g b) where
  pub some_fields : 1 ≤ l.n
  some_fields = f.stamps.layout.fields

  pub few_fields : l.n ≤ most_fields
  few_fields = f.stamps.layout.few_fields

  pub table_listed : Listed p
  table_listed = listed (product_of l) p f.stamps.partitions

  pub table_stamps : StampsFacts l p b
  table_stamps = f.stamps

  pub numbers : BasisFacts b.unit b.total
  numbers = f.stamps.numbers

  pub rows : SegmentsFacts b.unit b.total g
  rows = f.segments

  table_pass : {A : Type 0} (a : Answer A) → a ≡ accepted l p g a
  unfolding accepted
  table_pass a =
      stamps_pass l p b f.stamps a
      ∙ ap (accepted_stamps l p)
      (passed_at 3 _ a a
      (nothing (segments_fault (unit_of l) (total_of p) g) (segments_accepted (unit_of l) (total_of p) g (rw (f.stamps.unit, f.stamps.total) at f.segments))) refl)

  time_is : (e : ℕ) → time_in b.unit b.total g e ≡ time_of l p g e
  unfolding time_of
  time_is e = rw (f.stamps.unit, f.stamps.total) (table_pass (time_in (unit_of l) (total_of p) g e))

  -- a time is its bits at a call
  pub count_is : (t : ℤ) (x : Answer CountAtTime) → SFits w64 t → x ≡ count_in b.unit b.total g (to_z w64 (of_z w64 t)) → x ≡ count_at l p g t
  unfolding count_at
  count_is t x s q = q ∙ rw (to_z-of_z s, f.stamps.unit, f.stamps.total) (table_pass (count_in (unit_of l) (total_of p) g t))

  module _ (s : List ℕ) (a : Result Reading Refusal) (v : answer_of a ≡ and_then (parse_stamp (moduli_of l) (offsets_of l) s) (encode p)) where
    was_read : answer_of a ≡ read_stamp l p s
    unfolding read_stamp
    was_read = v ∙ stamps_pass l p b f.stamps _

    pub stamp_out : (k : Refusal) → a ≡ Err k → refused (as_numbered k) ≡ time_of_stamp l p g s
    unfolding time_of_stamp and_then
    stamp_out k h = let e : refused (as_numbered k) ≡ read_stamp l p s = rw h at was_read in rw (← e)

    pub stamp_timed : (r : Reading) (x : Answer TimedStamp) → a ≡ Ok r → x ≡ with_time r.count (time_in b.unit b.total g r.count) → x ≡ time_of_stamp l p g s
    unfolding time_of_stamp and_then
    stamp_timed r x h q =
        let e : answer r ≡ read_stamp l p s = rw h at was_read in
        rw (← e) (q ∙ ap (with_time r.count) (time_is r.count))

  -- a message, after `answer_of` answered r
  module _ (m : List ℕ) (r : Result ℕ Refusal) (e : answer_of r ≡ start_in m) where
    guarded : accepted_message m (time_of_stamp l p g (text_in m)) ≡ time_of_message l p g m
    unfolding time_of_message time_of_stamp read_message
    guarded = sym (then-accepted m (read_stamp l p (text_in m)) (λ x. with_time x.count (time_of l p g x.count)))

    pub message_out : (k : Refusal) → r ≡ Err k → refused (as_numbered k) ≡ time_of_message l p g m
    message_out k h = start_refused m r e k _ h ∙ guarded

    pub message_timed : (i : ℕ) (s : List ℕ) (x : Answer TimedStamp) → r ≡ Ok i → s ≡ text_in m → x ≡ time_of_stamp l p g s → x ≡ time_of_message l p g m
    message_timed i s x h t q = start_accepted m r e i h x _ (q ∙ rw t) ∙ guarded
