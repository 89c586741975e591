-- What can come back of a C call: its refusals are those of the inner call, and a time's buffer adds 16; a count or a length is small.
-- So a result is negative exactly where the call refuses.
use Rattle.std.specs.Prelude.{ℕ, ◌^◌, ◌≤◌, ◌<◌, ◌≡◌, Bool, true, false, List, ◌∷◌, ℤ, pos, negsuc}
use Rattle.base.specs.Scans.{among}
use Rattle.rules.specs.Limits.{largest_count, largest_total}
use Rattle.rules.specs.declared.Layout.{Layout}
use Rattle.rules.specs.Answer.{Answer, answer, refused, Numbered}
use Rattle.rules.specs.Partitions.{Partitions}
use Rattle.rules.specs.Segments.{Segments}
use Rattle.rules.specs.Text.{read_text}
use Rattle.rules.specs.Stamp.{read_stamp}
use Rattle.rules.specs.Message.{read_message}
use Rattle.rules.specs.Print.{print_count, print_stamp, length_printed}
use Rattle.rules.specs.Time.{time_of, count_at}
use Rattle.outcomes.specs.Refusals.{text_refusals, stamp_refusals, message_refusals, print_count_refusals, print_stamp_refusals, time_of_refusals, count_at_refusals}
use Rattle.roundtrip.specs.RoundTrip.{longest_count_print, longest_stamp_print}
use Rattle.c_rules.specs.Tables.{layout_from}
use Rattle.c_rules.specs.Calls.{returned, count_read, count_given, time_written, zero_given}

-- a number of at most `most`, or a refusal whose number is one of ks
pub record Gives (most : ℕ) (ks : List ℕ) (a : Answer ℕ) : Type 0 where
  pub number : (c : ℕ) → a ≡ answer c → c ≤ most
  pub refusal : (r : Numbered) → a ≡ refused r → among r.number ks ≡ true

pub record Results : Type 0 where
  pub text : (l : Layout) (s : List ℕ) → Gives largest_count text_refusals (count_read (read_text l s))
  pub stamp : (l : Layout) (p : Partitions) (s : List ℕ) → Gives largest_total stamp_refusals (count_read (read_stamp l p s))
  pub message : (l : Layout) (p : Partitions) (m : List ℕ) → Gives largest_total message_refusals (count_read (read_message l p m))
  pub print_count_lem : (n d : ℕ) (moduli offsets : List ℕ) (c room : ℕ) → Gives longest_count_print print_count_refusals (length_printed (print_count (layout_from n d moduli offsets) c room))
  pub print_stamp_lem : (n d : ℕ) (moduli offsets : List ℕ) (p : Partitions) (e room : ℕ) → Gives longest_stamp_print print_stamp_refusals (length_printed (print_stamp (layout_from n d moduli offsets) p e room))
  pub time_of_lem : (l : Layout) (p : Partitions) (g : Segments) (e room : ℕ) → Gives 0 (16 ∷ time_of_refusals) (zero_given (time_written (time_of l p g e) room))
  pub count_at_lem : (l : Layout) (p : Partitions) (g : Segments) (t : ℤ) → Gives largest_total count_at_refusals (count_given (count_at l p g t))

abbrev pub is_negative : ℤ → Bool
is_negative (pos n) = false
is_negative (negsuc n) = true

abbrev pub is_refused : Answer ℕ → Bool
is_refused (answer c) = false
is_refused (refused r) = true

-- of whatever gives refusals of numbers other than 0, as all seven calls do
abbrev pub NegativeIsRefused : Type 0
NegativeIsRefused = (most : ℕ) (ks : List ℕ) (a : Answer ℕ) → Gives most ks a → among 0 ks ≡ false → is_negative (returned a) ≡ is_refused a

-- a result is an i64: a number below 2^63, a refusal's number from 1 to that
pub record Returnable (a : Answer ℕ) : Type 0 where
  pub number : (c : ℕ) → a ≡ answer c → c < 2 ^ 63
  pub low : (r : Numbered) → a ≡ refused r → 1 ≤ r.number
  pub high : (r : Numbered) → a ≡ refused r → r.number < 2 ^ 63
