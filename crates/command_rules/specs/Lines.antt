-- What the command prints of a line of input, and whether the line is answered well: "Exit status 0 all answered and same, 1 some refusal or difference".
use Rattle.std.specs.Prelude.{ℕ, ◌+◌, Bool, true, false, ◌&&◌, List, eqb}
use Rattle.rules.specs.declared.Layout.{Layout}
use Rattle.rules.specs.declared.CountAtTime.{CountAtTime}
use Rattle.rules.specs.declared.TimedStamp.{TimedStamp}
use Rattle.rules.specs.Answer.{Answer, answer, refused, and_then, Numbered}
use Rattle.rules.specs.Limits.{longest_text}
use Rattle.rules.specs.Partitions.{Partitions}
use Rattle.rules.specs.Print.{print_stamp}
use Rattle.rules.specs.Time.{count_at}
use Rattle.rules.specs.StampTime.{time_of_stamp, time_of_message}
use Rattle.rules.specs.Examples.{bytes}
use Rattle.lines.specs.Lines.{room_for}
use Rattle.versions.specs.Versions.{Table}
use Rattle.versions.specs.Equal.{eq_z}
use Rattle.number_text.specs.Numbers.{decimal_of}
use Rattle.command_rules.specs.declared.Query.{Query}
use Rattle.command_rules.specs.declared.Query.TheVariants as Asked
use Rattle.command_rules.specs.Fields.{field, last_field, time_text, difference_text, refusal_text}
use Rattle.command_rules.specs.Input.{without_return, read_count, read_time_by, read_hex, longest_hex}

-- what is printed of a line, byte 10 included, and whether it is answered well
pub record Line : Type 0 where
  pub text : List ℕ
  pub well : Bool

-- an answer's text, or `refused` and the refusal
unfoldable pub answered_line : Answer (List ℕ) → Line
answered_line (answer s) = record { text = last_field s; well = true }
answered_line (refused k) = record { text = field (bytes "refused") (last_field (refusal_text k)); well = false }

-- the calls under a table
abbrev pub stamp_by : Table → List ℕ → Answer TimedStamp
stamp_by t s = time_of_stamp t.layout t.partitions t.segments s

unfoldable pub message_by : Table → List ℕ → Answer TimedStamp
message_by t s = and_then (read_hex s) (time_of_message t.layout t.partitions t.segments)

abbrev pub print_by : Layout → Partitions → ℕ → Answer (List ℕ)
print_by l p e = print_stamp l p e longest_text

-- an encoded count and its time
unfoldable pub both_fields : Bool → TimedStamp → List ℕ
both_fields seconds s = field (decimal_of s.count) (time_text seconds s.time)

-- "encoded count, time, the stamp as printed"
unfoldable pub time_fields : Bool → Layout → Partitions → TimedStamp → Answer (List ℕ)
time_fields seconds l p s = and_then (print_by l p s.count) (λ text. answer (field (both_fields seconds s) text))

unfoldable pub time_line : Bool → Layout → Partitions → Answer TimedStamp → Line
time_line seconds l p a = answered_line (and_then a (time_fields seconds l p))

-- "encoded counts to stamps"
unfoldable pub stamp_line : Layout → Partitions → List ℕ → Line
stamp_line l p s = answered_line (and_then (read_count s) (print_by l p))

-- "times in ns to encoded counts"
unfoldable pub count_field : Answer CountAtTime → Answer (List ℕ)
count_field a = and_then a (λ c. answer (decimal_of c.count))

unfoldable pub count_line : Bool → Table → List ℕ → Line
count_line seconds t s = answered_line (and_then (read_time_by seconds s) (λ time. count_field (count_at t.layout t.partitions t.segments time)))

-- "same (both answer alike ..) .. or differ with both answers and by how much": the newer's time less the older's
unfoldable pub both_line : Bool → TimedStamp → TimedStamp → Bool → Line
both_line seconds a b true = record { text = field (bytes "same") (last_field (both_fields seconds a)); well = true }
both_line seconds a b false =
    record {
      text = field (bytes "differ") (field (both_fields seconds a) (field (both_fields seconds b) (last_field (difference_text seconds a.time b.time))));
      well = false;
    }

-- "or both refuse with one number", "refused N and M"
unfoldable pub refused_line : Numbered → Numbered → Bool → Line
refused_line j k true = record { text = field (bytes "same") (field (bytes "refused") (last_field (refusal_text j))); well = false }
refused_line j k false = record { text = field (bytes "refused") (field (refusal_text j) (last_field (refusal_text k))); well = false }

-- what the older table answers, and the newer
unfoldable pub compare_line : Bool → Answer TimedStamp → Answer TimedStamp → Line
compare_line seconds (answer a) (answer b) = both_line seconds a b (eqb a.count b.count && eq_z a.time b.time)
compare_line seconds (refused j) (answer b) =
    record { text = field (bytes "older refuses") (field (refusal_text j) (last_field (both_fields seconds b))); well = false }
compare_line seconds (answer a) (refused k) =
    record { text = field (bytes "newer refuses") (field (refusal_text k) (last_field (both_fields seconds a))); well = false }
compare_line seconds (refused j) (refused k) = refused_line j k (eqb j.number k.number)

-- a line without its byte 13; a query of one table asks the first
unfoldable pub line_by : Query → Bool → Table → Table → List ℕ → Line
line_by Asked.Time seconds older newer s = time_line seconds older.layout older.partitions (stamp_by older s)
line_by Asked.Messages seconds older newer s = time_line seconds older.layout older.partitions (message_by older s)
line_by Asked.Stamp seconds older newer s = stamp_line older.layout older.partitions s
line_by Asked.Count seconds older newer s = count_line seconds older s
line_by Asked.Compare seconds older newer s = compare_line seconds (stamp_by older s) (stamp_by newer s)
line_by Asked.CompareMessages seconds older newer s = compare_line seconds (message_by older s) (message_by newer s)

unfoldable pub line_of : Query → Bool → Table → Table → List ℕ → Line
line_of q seconds older newer l = line_by q seconds older newer (without_return l)

-- what is printed of a line, and whether it is answered well
abbrev pub line_text : Query → Bool → Table → Table → List ℕ → List ℕ
line_text q seconds older newer l = (line_of q seconds older newer l).text

abbrev pub line_well : Query → Bool → Table → Table → List ℕ → Bool
line_well q seconds older newer l = (line_of q seconds older newer l).well

-- the line buffer: the longest message in hex, a byte 13, and one byte more
abbrev pub line_buffer : ℕ
line_buffer = room_for (longest_hex + 1)
