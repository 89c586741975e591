-- The lines of some rows of a table, put into a buffer as far as it goes; and the line of a partition by its numbers.
use Rattle.std.specs.Prelude.{ℕ, ◌+◌, ◌-◌, ◌*◌, ◌≤◌, min, List, length}
use Rattle.rules.specs.Examples.{bytes}
use Rattle.decimal.specs.Writing.{Written}
use Rattle.number_text.specs.Numbers.{decimal_of, longest_number}
use Rattle.command_rules.specs.Fields.{field, last_field}
use Rattle.command_rules.specs.Describe.{rows_text}

-- the lines of the rows from `from` on below n
unfoldable pub rows_between : (ℕ → List ℕ) → ℕ → ℕ → List ℕ
rows_between line from n = rows_text (λ i. line (from + i)) (n - from)

-- Of n rows those from `from` on below next stand at the front of the buffer, up to index put: at least one, where one is left.
pub record RowsPut (line : ℕ → List ℕ) (n from next put : ℕ) (entry exit : List ℕ) : Type 0 where
  pub goes_on : min (from + 1) n ≤ next
  pub within : next ≤ n
  pub room_left : put ≤ length entry
  pub text : Written (rows_between line from next) put 0 entry exit

unfoldable pub partition_row : ℕ → ℕ → ℕ → ℕ → List ℕ
partition_row number start end first =
    field (bytes "partition") (field (decimal_of number) (field (decimal_of start) (field (decimal_of end) (last_field (decimal_of first)))))

-- `partition`, a tab, four numbers and a byte behind each
abbrev pub longest_partition : ℕ
longest_partition = 10 + 4 * (longest_number + 1)
