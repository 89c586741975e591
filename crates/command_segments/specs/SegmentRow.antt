-- The line of a segment in its parts, and the most bytes of each.
use Rattle.std.specs.Prelude.{ℕ, ◌+◌, Bool, List, []}
use Rattle.rules.specs.declared.Segment.{Segment}
use Rattle.rules.specs.Examples.{bytes}
use Rattle.number_text.specs.Numbers.{decimal_of, longest_number}
use Rattle.command_rules.specs.Fields.{field, time_text}
use Rattle.command_text.specs.Longest.{longest_pointed, longest_field}

-- up to the rate
unfoldable pub segment_front : Bool → ℕ → Segment → List ℕ
segment_front seconds number row = field (bytes "segment") (field (decimal_of number) (field (decimal_of row.count) (field (time_text seconds row.time) [])))

-- `segment`, a tab, two numbers and a time, and a tab behind each
abbrev pub longest_front : ℕ
longest_front = 8 + (longest_number + 1) + (longest_number + 1) + longest_field

-- a rate, a tab, `back`, a tab, an amount and byte 10
abbrev pub longest_rest : ℕ
longest_rest = longest_field + 5 + longest_pointed

abbrev pub longest_segment : ℕ
longest_segment = longest_front + longest_rest
