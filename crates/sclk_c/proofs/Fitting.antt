-- Each call: its result is an i64, and what comes back is that of the inner call under the layout that the bytes make.
use Rattle.rules.specs.declared.refusal.Refusal.{Refusal}
use Rattle.std.specs.Prelude.{Result}
use Rattle.rules.specs.declared.CountAtTime.{CountAtTime}
use Rattle.rules.specs.declared.TimeOfCount.{TimeOfCount}
use Rattle.rules.specs.declared.Reading.{Reading}
use Prim.Native.Nat.{ℕ, ◌<◌}
use mathlib.Core.Path.{◌≡◌, refl, ap, ◌∙◌}
use mathlib.Core.List.{List}
use lib.Dec.{lit<}
use lib.IntN.{ℤ}
use mir.Syntax.{w64}
use mir.Val.{SFits, to_z, of_z}
use mir.Facts.{to_z-of_z}
use Rattle.base.specs.Scans.{all, among}
use Rattle.rules.specs.declared.Layout.{Layout}
use Rattle.rules.specs.Answer.{Answer, answer_of}
use Rattle.rules.specs.Partitions.{Partitions}
use Rattle.rules.specs.Segments.{Segments}
use Rattle.rules.specs.Text.{read_text}
use Rattle.rules.specs.Stamp.{read_stamp}
use Rattle.rules.specs.Message.{read_message}
use Rattle.rules.specs.Print.{print_count, print_stamp, length_printed, buffer_after}
use Rattle.rules.specs.Time.{time_of, count_at}
use Rattle.outcomes.specs.Refusals.{text_refusals, stamp_refusals, message_refusals, print_count_refusals, print_stamp_refusals, time_of_refusals, count_at_refusals}
use Rattle.c_rules.specs.Tables.{layout_from}
use Rattle.c_rules.specs.Calls.{returned, count_read, count_given, time_written, zero_given}
use Rattle.c_outcomes.specs.Results.{Returnable}
use Rattle.c_outcomes.proofs.Results.{results, returnable}

-- a result is handed on
back : (z : ℤ) (a b : Answer ℕ) → SFits w64 z → z ≡ returned a → a ≡ b → to_z w64 (of_z w64 z) ≡ returned b
back z a b f e q = to_z-of_z f ∙ e ∙ ap returned q

module _ (l : Layout) (s : List ℕ) (x : Result Reading Refusal) (e : answer_of x ≡ read_text l s) where
  pub text_fits : Returnable (count_read (answer_of x))
  unfolding all among text_refusals
  text_fits = rw e (returnable _ _ _ (results.text l s) (lit< tt) refl refl)

  pub text_back : (m : Layout) → l ≡ m → (z : ℤ) → SFits w64 z → z ≡ returned (count_read (answer_of x)) → to_z w64 (of_z w64 z) ≡ returned (count_read (read_text m s))
  text_back m q z f r = back z _ _ f r (rw (e, q))

module _ (l : Layout) (p : Partitions) (s : List ℕ) (x : Result Reading Refusal) (e : answer_of x ≡ read_stamp l p s) where
  pub stamp_fits : Returnable (count_read (answer_of x))
  unfolding all among stamp_refusals
  stamp_fits = rw e (returnable _ _ _ (results.stamp l p s) (lit< tt) refl refl)

  pub stamp_back : (m : Layout) → l ≡ m → (z : ℤ) → SFits w64 z → z ≡ returned (count_read (answer_of x)) → to_z w64 (of_z w64 z) ≡ returned (count_read (read_stamp m p s))
  stamp_back m q z f r = back z _ _ f r (rw (e, q))

module _ (l : Layout) (p : Partitions) (s : List ℕ) (x : Result Reading Refusal) (e : answer_of x ≡ read_message l p s) where
  pub message_fits : Returnable (count_read (answer_of x))
  unfolding all among message_refusals
  message_fits = rw e (returnable _ _ _ (results.message l p s) (lit< tt) refl refl)

  pub message_back : (m : Layout) → l ≡ m → (z : ℤ) → SFits w64 z → z ≡ returned (count_read (answer_of x)) → to_z w64 (of_z w64 z) ≡ returned (count_read (read_message m p s))
  message_back m q z f r = back z _ _ f r (rw (e, q))

module _ (n d : ℕ) (moduli offsets : List ℕ) (l : Layout) (q : l ≡ layout_from n d moduli offsets) (c room : ℕ) where
  module _ (x : Result ℕ Refusal) (e : answer_of x ≡ length_printed (print_count l c room)) where
    pub count_print_fits : Returnable (answer_of x)
    unfolding all among print_count_refusals
    count_print_fits = rw (e, q) (returnable _ _ _ (results.print_count_lem n d moduli offsets c room) (lit< tt) refl refl)

    pub count_print_back : (z : ℤ) → SFits w64 z → z ≡ returned (answer_of x) → to_z w64 (of_z w64 z) ≡ returned (length_printed (print_count (layout_from n d moduli offsets) c room))
    count_print_back z f r = back z _ _ f r (rw (e, q))

  pub count_print_left : (entry exit : List ℕ) → exit ≡ buffer_after (print_count l c room) entry → exit ≡ buffer_after (print_count (layout_from n d moduli offsets) c room) entry
  count_print_left entry exit e = rw q at e

  module _ (p : Partitions) where
    module _ (x : Result ℕ Refusal) (e : answer_of x ≡ length_printed (print_stamp l p c room)) where
      pub stamp_print_fits : Returnable (answer_of x)
      unfolding all among print_stamp_refusals
      stamp_print_fits = rw (e, q) (returnable _ _ _ (results.print_stamp_lem n d moduli offsets p c room) (lit< tt) refl refl)

      pub stamp_print_back : (z : ℤ) → SFits w64 z → z ≡ returned (answer_of x) → to_z w64 (of_z w64 z) ≡ returned (length_printed (print_stamp (layout_from n d moduli offsets) p c room))
      stamp_print_back z f r = back z _ _ f r (rw (e, q))

    pub stamp_print_left : (entry exit : List ℕ) → exit ≡ buffer_after (print_stamp l p c room) entry → exit ≡ buffer_after (print_stamp (layout_from n d moduli offsets) p c room) entry
    stamp_print_left entry exit e = rw q at e

module _ (l : Layout) (p : Partitions) (g : Segments) (c room : ℕ) (x : Result TimeOfCount Refusal) (e : answer_of x ≡ time_of l p g c) where
  pub time_fits : Returnable (zero_given (time_written (answer_of x) room))
  unfolding all among time_of_refusals
  time_fits = rw e (returnable _ _ _ (results.time_of_lem l p g c room) (lit< tt) refl refl)

  pub time_back : (z : ℤ) → SFits w64 z → z ≡ returned (zero_given (time_written (answer_of x) room)) → to_z w64 (of_z w64 z) ≡ returned (zero_given (time_written (time_of l p g c) room))
  time_back z f r = back z _ _ f r (rw e)

  pub time_left : (entry exit : List ℕ) → exit ≡ buffer_after (time_written (answer_of x) room) entry → exit ≡ buffer_after (time_written (time_of l p g c) room) entry
  time_left entry exit h = rw e at h

-- a time is its bits at a call
module _ (l : Layout) (p : Partitions) (g : Segments) (t : ℤ) (ft : SFits w64 t) (x : Result CountAtTime Refusal) (e : answer_of x ≡ count_at l p g (to_z w64 (of_z w64 t))) where
  pub count_fits : Returnable (count_given (answer_of x))
  unfolding all among count_at_refusals
  count_fits = rw (e, to_z-of_z ft) (returnable _ _ _ (results.count_at_lem l p g t) (lit< tt) refl refl)

  pub count_back : (z : ℤ) → SFits w64 z → z ≡ returned (count_given (answer_of x)) → to_z w64 (of_z w64 z) ≡ returned (count_given (count_at l p g t))
  count_back z f r = back z _ _ f r (rw (e, to_z-of_z ft))
