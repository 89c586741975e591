-- The lines of a description before and after its rows, by their numbers, and the most bytes of each.
use Rattle.std.specs.Prelude.{ℕ, ◌+◌, ◌*◌, ◌≤◌, List, ◌++◌, length, get_or}
use Rattle.rules.specs.Limits.{most_fields}
use Rattle.rules.specs.Examples.{bytes}
use Rattle.number_text.specs.Numbers.{decimal_of, longest_number}
use Rattle.command_rules.specs.Fields.{field, last_field}
use Rattle.command_rules.specs.Describe.{rows_text, number_line}

-- `clock`, a tab, and the room for a time and byte 10
abbrev pub longest_clock : ℕ
longest_clock = 6 + longest_number + 2

-- `time system`, a tab, a number, a tab, the name and byte 10
abbrev pub longest_system : ℕ
longest_system = 12 + longest_number + 1 + 4

-- `delimiter`, a tab, a number, a tab, the byte and byte 10
abbrev pub longest_delimiter : ℕ
longest_delimiter = 10 + longest_number + 1 + 2

-- `field`, a tab, three numbers and a byte behind each
abbrev pub longest_field : ℕ
longest_field = 6 + 3 * (longest_number + 1)

abbrev pub longest_head : ℕ
longest_head = longest_clock + longest_system + longest_delimiter + most_fields * longest_field

-- the longest name, `partitions` or `steps back`, a tab, a number and byte 10
abbrev pub longest_number_line : ℕ
longest_number_line = 11 + longest_number + 1

abbrev pub longest_tail : ℕ
longest_tail = 6 * longest_number_line

-- a field by its number, from 1
unfoldable pub field_row : ℕ → ℕ → ℕ → List ℕ
field_row number modulus offset = field (bytes "field") (field (decimal_of number) (field (decimal_of modulus) (last_field (decimal_of offset))))

-- the first n fields of these moduli and offsets
unfoldable pub field_rows : List ℕ → List ℕ → ℕ → List ℕ
field_rows moduli offsets n = rows_text (λ i. field_row (i + 1) (get_or moduli i 0) (get_or offsets i 0)) n

-- the n fields are in both lists, and they are few
pub record FieldsIn (n : ℕ) (moduli offsets : List ℕ) : Type 0 where
  pub few : n ≤ most_fields
  pub moduli_in : n ≤ length moduli
  pub offsets_in : n ≤ length offsets

-- the last lines, in two halves
unfoldable pub table_lines : ℕ → ℕ → ℕ → List ℕ
table_lines fields partitions total =
    number_line (bytes "fields") fields ++ (number_line (bytes "partitions") partitions ++ number_line (bytes "total") total)

unfoldable pub jump_lines : ℕ → ℕ → ℕ → List ℕ
jump_lines segments gaps backs =
    number_line (bytes "segments") segments ++ (number_line (bytes "gaps") gaps ++ number_line (bytes "steps back") backs)

unfoldable pub tail_lines : ℕ → ℕ → ℕ → ℕ → ℕ → ℕ → List ℕ
tail_lines fields partitions total segments gaps backs = table_lines fields partitions total ++ jump_lines segments gaps backs
