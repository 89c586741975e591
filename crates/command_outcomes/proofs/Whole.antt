-- A line that the line buffer does not hold is refused 4, whatever is asked of it; so what the buffer keeps of a line is enough.
use Prim.Native.Nat.{ℕ, ◌+◌, ◌-◌, ◌<◌}
use mathlib.Core.Path.{◌≡◌, ap}
use mathlib.Core.Bool.{Bool, true, false}
use mathlib.Core.List.{List}
use lib.Dec.{eqb}
use lib.ListN.{length, get_or, length-take}
use borrow.Author.Tests.{lt-leb}
use native.Mathlib.Omega.{arith}
use Rattle.base.proofs.Scans.{nothing}
use Rattle.base.proofs.Tests.{by_test}
use Rattle.rules.specs.Limits.{longest_text}
use Rattle.rules.specs.Answer.{refuse, unless, unless_at, and_then}
use Rattle.rules.specs.Layout.{product_of}
use Rattle.rules.specs.Partitions.{partitions_fault}
use Rattle.rules.specs.Stamp.{read_stamp, parse_stamp}
use Rattle.rules.specs.StampTime.{time_of_stamp}
use Rattle.versions.specs.Versions.{Table, Accepted}
use Rattle.lines.proofs.Whole.{enough}
use Rattle.line_output.specs.Pieces.{Enough}
use Rattle.line_output.proofs.Whole.{whole_output, whole_well}
use Rattle.command_rules.specs.declared.Query.{Query}
use Rattle.command_rules.specs.declared.Query.TheVariants as Asked
use Rattle.command_rules.specs.Input.{without_return, read_count, read_time, read_seconds, read_time_by, read_hex, longest_hex}
use Rattle.command_rules.specs.Lines.{Line, answered_line, stamp_by, message_by, time_line, stamp_line, count_line, compare_line, line_by, line_of, line_text, line_well, line_buffer}
use Rattle.command_outcomes.specs.Whole.{WholeOfAccepted}

-- each reading of a long text
long_stamp : (t : Table) → Accepted t → (s : List ℕ) → longest_text < length s → stamp_by t s ≡ refuse 4
unfolding time_of_stamp read_stamp parse_stamp unless unless_at and_then
long_stamp t a s h =
    rw (a.layout, nothing (partitions_fault (product_of t.layout) t.partitions) a.partitions, lt-leb (length s) longest_text h)

long_message : (t : Table) (s : List ℕ) → longest_hex < length s → message_by t s ≡ refuse 4
unfolding message_by read_hex unless and_then
long_message t s h = rw (lt-leb (length s) longest_hex h)

long_count : (s : List ℕ) → longest_text < length s → read_count s ≡ refuse 4
unfolding read_count unless
long_count s h = rw (lt-leb (length s) longest_text h)

long_time : (seconds : Bool) (s : List ℕ) → longest_text < length s → read_time_by seconds s ≡ refuse 4
unfolding read_time_by read_time read_seconds unless
long_time true s h = rw (lt-leb (length s) longest_text h)
long_time false s h = rw (lt-leb (length s) longest_text h)

-- its line
unfoldable long_line : Query → Bool → Line
long_line Asked.Time seconds = answered_line (refuse 4)
long_line Asked.Messages seconds = answered_line (refuse 4)
long_line Asked.Stamp seconds = answered_line (refuse 4)
long_line Asked.Count seconds = answered_line (refuse 4)
long_line Asked.Compare seconds = compare_line seconds (refuse 4) (refuse 4)
long_line Asked.CompareMessages seconds = compare_line seconds (refuse 4) (refuse 4)

module _ (seconds : Bool) (o n : Table) (a : Accepted o) (b : Accepted n) where
  long_by : (q : Query) (s : List ℕ) → longest_hex < length s → line_by q seconds o n s ≡ long_line q seconds
  unfolding line_by long_line time_line stamp_line count_line and_then
  long_by Asked.Time s h = rw (long_stamp o a s (omega arith))
  long_by Asked.Messages s h = rw (long_message o s h)
  long_by Asked.Stamp s h = rw (long_count s (omega arith))
  long_by Asked.Count s h = rw (long_time seconds s (omega arith))
  long_by Asked.Compare s h = rw (long_stamp o a s (omega arith), long_stamp n b s (omega arith))
  long_by Asked.CompareMessages s h = rw (long_message o s h, long_message n s h)

  without_return_lem : (l : List ℕ) → longest_hex + 1 < length l → longest_hex < length (without_return l)
  unfolding without_return
  without_return_lem l h =
      by_test (eqb (get_or l (length l - 1) 0) 13) (λ t. rw (t, length-take) (omega arith)) (λ f. rw f (omega arith))

  long_line_lem : (q : Query) (l : List ℕ) → longest_hex + 1 < length l → line_of q seconds o n l ≡ long_line q seconds
  unfolding line_of
  long_line_lem q l h = long_by q (without_return l) (without_return_lem l h)

  enough_text : (q : Query) → Enough (line_text q seconds o n) line_buffer
  enough_text q l = enough (longest_hex + 1) (line_text q seconds o n) (long_line q seconds).text (λ k h. ap (λ (x : Line). x.text) (long_line_lem q k h)) l

  enough_well : (q : Query) → Enough (line_well q seconds o n) line_buffer
  enough_well q l = enough (longest_hex + 1) (line_well q seconds o n) (long_line q seconds).well (λ k h. ap (λ (x : Line). x.well) (long_line_lem q k h)) l

pub whole_of_accepted : WholeOfAccepted
whole_of_accepted q seconds o n a b =
    record {
      output = whole_output (line_text q seconds o n) line_buffer (omega arith) (enough_text seconds o n a b q);
      well = whole_well (line_well q seconds o n) line_buffer (omega arith) (enough_well seconds o n a b q);
    }
