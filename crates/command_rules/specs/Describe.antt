-- What the command prints of a table: "layout, partitions, segments; each gap and step back with its size; the time system".
use Rattle.std.specs.Prelude.{ℕ, zero, suc, ◌+◌, Bool, cond, ◌&&◌, List, [], ◌∷◌, ◌++◌, ℤ, eqb, get_or}
use Rattle.std.specs.Int.Signed.{lt_z}
use Rattle.base.specs.Scans.{sum_below}
use Rattle.base.specs.Signed.{elapsed}
use Rattle.rules.specs.declared.Layout.{Layout}
use Rattle.rules.specs.Layout.{unit_of}
use Rattle.rules.specs.Partitions.{Partitions, partitions_in, start_of, end_of, lengths_before, total_of}
use Rattle.rules.specs.Segments.{Segments, segments_in, row_of, has_next, line_at, steps_back_at}
use Rattle.rules.specs.Print.{delimiter_byte}
use Rattle.rules.specs.Examples.{bytes}
use Rattle.versions.specs.Versions.{Table}
use Rattle.number_text.specs.Numbers.{decimal_of, time_bytes}
use Rattle.command_rules.specs.Fields.{tab, field, last_field, amount_text, time_text, rate_text}

-- the lines of the rows below n
unfoldable pub rows_text : (ℕ → List ℕ) → ℕ → List ℕ
rows_text line zero = []
rows_text line (suc n) = rows_text line n ++ line n

-- how many rows below n p holds of
unfoldable pub count_below : (ℕ → Bool) → ℕ → ℕ
count_below p n = sum_below (λ i. cond (p i) 1 0) n

-- a name and a number
unfoldable pub number_line : List ℕ → ℕ → List ℕ
number_line name x = field name (last_field (decimal_of x))

-- "The time systems and codes currently in use": TDB 1 and TDT 2 (document 003)
unfoldable pub system_name : ℕ → List ℕ
system_name code = cond (eqb code 1) (bytes "TDB") (bytes "TDT")

unfoldable pub clock_line : ℤ → List ℕ
clock_line clock = field (bytes "clock") (last_field (time_bytes clock))

unfoldable pub system_line : ℕ → List ℕ
system_line code = field (bytes "time system") (field (decimal_of code) (last_field (system_name code)))

unfoldable pub delimiter_line : ℕ → List ℕ
delimiter_line code = field (bytes "delimiter") (field (decimal_of code) (last_field (delimiter_byte code ∷ [])))

-- a field by its number, from 1: modulus and offset
unfoldable pub field_line : Layout → ℕ → List ℕ
field_line l i =
    field (bytes "field") (field (decimal_of (i + 1)) (field (decimal_of (get_or l.moduli i 0)) (last_field (decimal_of (get_or l.offsets i 0)))))

-- a partition by the number that stamps have for it: start, end, and the encoded count of its start
unfoldable pub partition_line : Partitions → ℕ → List ℕ
partition_line p i =
    field (bytes "partition")
    (field (decimal_of (i + 1))
    (field (decimal_of (start_of p i))
    (field (decimal_of (end_of p i)) (last_field (decimal_of (lengths_before p i))))))

-- the time that the line of row i, rounded up, reaches where the next row begins
unfoldable pub reached : ℕ → Segments → ℕ → ℤ
reached unit g i = line_at unit (row_of g i) (row_of g (i + 1)).count

-- the next row's time is later: a gap; earlier: a step back; else nothing
unfoldable pub jump_text : Bool → ℤ → ℤ → List ℕ
jump_text seconds line next =
    cond (lt_z line next) (tab ∷ field (bytes "gap") (amount_text seconds (elapsed line next)))
    (cond (lt_z next line) (tab ∷ field (bytes "back") (amount_text seconds (elapsed next line))) [])

-- a segment by its row, from 0
unfoldable pub segment_line : Bool → ℕ → Segments → ℕ → List ℕ
segment_line seconds unit g i =
    field (bytes "segment")
    (field (decimal_of i)
    (field (decimal_of (row_of g i).count)
    (field (time_text seconds (row_of g i).time)
    (rate_text seconds (row_of g i).rate ++ last_field (cond (has_next g.counts i) (jump_text seconds (reached unit g i) (row_of g (i + 1)).time) [])))))

unfoldable pub is_gap : ℕ → Segments → ℕ → Bool
is_gap unit g i = has_next g.counts i && lt_z (reached unit g i) (row_of g (i + 1)).time

unfoldable pub head_text : ℤ → ℕ → Layout → List ℕ
head_text clock system l = clock_line clock ++ (system_line system ++ (delimiter_line l.delimiter ++ rows_text (field_line l) l.n))

unfoldable pub tail_text : Table → List ℕ
tail_text t =
    number_line (bytes "fields") t.layout.n
    ++ (number_line (bytes "partitions") (partitions_in t.partitions)
    ++ (number_line (bytes "total") (total_of t.partitions)
    ++ (number_line (bytes "segments") (segments_in t.segments)
    ++ (number_line (bytes "gaps") (count_below (is_gap (unit_of t.layout) t.segments) (segments_in t.segments))
    ++ number_line (bytes "steps back") (count_below (steps_back_at (unit_of t.layout) t.segments) (segments_in t.segments))))))

unfoldable pub describe_text : ℤ → ℕ → Bool → Table → List ℕ
describe_text clock system seconds t =
    head_text clock system t.layout
    ++ (rows_text (partition_line t.partitions) (partitions_in t.partitions)
    ++ (rows_text (segment_line seconds (unit_of t.layout) t.segments) (segments_in t.segments) ++ tail_text t))
