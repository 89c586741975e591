-- One name for the definitions of kernel text: `unfolding reading` lets a table of cases compute.
use Rattle.base.specs.Scans.{among}
use Rattle.rules.specs.Examples.{bytes}
use Rattle.rules.specs.Computing.{computing}
use Rattle.lines.specs.Lines.{with_byte, lines_of}
use Rattle.kernel_rules.specs.Lines.{trim_to, trim_one, kept_of, trimmed, span, after_gap, same, is_marker, is_data_line, is_empty_line}
use Rattle.kernel_rules.specs.Numbers.{
  after_one,
  after_digits,
  sign_end,
  whole_end,
  point_end,
  decimals_end,
  letter_end,
  power_sign_end,
  power_end,
  has_form,
  is_number,
  followed,
  digits_of,
  power_of,
  is_power_minus,
  with_sign,
  quotient,
  scaled,
  value_in,
  number_in,
}
use Rattle.kernel_rules.specs.Tokens.{
  quoted,
  string_width,
  width_at,
  token_at,
  tokens_from,
  closes_at_end,
  is_string,
  is_number_or_date,
  with_number,
  with_string,
  with_comma,
  with_close,
  item_by,
  item,
  items,
}
use Rattle.kernel_rules.specs.Assignments.{
  equals_at,
  is_plus,
  name_end,
  name_in,
  value_at,
  is_name,
  value_stage,
  assigned,
  begins_data,
  begins_text,
  plain_stage,
  after_line,
  after_lines,
  ends_well,
  until_close,
  tokens_of_lines,
  values_in,
  values_of,
}
use Rattle.kernel_rules.specs.Names.{clock_digits, name_list, number_or, which, assigns, given}
use Rattle.kernel_rules.specs.Tables.{
  every,
  name_ok,
  values_given,
  is_exactly,
  type_ok,
  system_ok,
  assignments_ok,
  is_unsigned,
  unsigned,
  is_signed,
  signed,
  column,
  exact_ok,
  first_or,
  tables_of,
  layout_in,
  tables_accepted,
}
use Rattle.kernel_rules.specs.Kernel.{lines_read, fits, read_kernel, kernel_given, front, fronts, lists_after}

unfoldable pub line_rules : Type 0
unfolding with_byte lines_of trim_to trim_one kept_of trimmed span after_gap same is_marker is_data_line is_empty_line
line_rules = Unit {0}

unfoldable pub number_rules : Type 0
unfolding after_one after_digits sign_end whole_end point_end decimals_end letter_end power_sign_end power_end has_form is_number followed digits_of power_of is_power_minus with_sign quotient scaled value_in number_in
number_rules = Unit {0}

unfoldable pub token_rules : Type 0
unfolding quoted string_width width_at token_at tokens_from closes_at_end is_string is_number_or_date with_number with_string with_comma with_close item_by item items
token_rules = Unit {0}

unfoldable pub assignment_rules : Type 0
unfolding equals_at is_plus name_end name_in value_at is_name value_stage assigned begins_data begins_text plain_stage after_line after_lines ends_well until_close tokens_of_lines values_in values_of clock_digits name_list number_or which assigns given
assignment_rules = Unit {0}

unfoldable pub value_rules : Type 0
unfolding among every name_ok values_given is_exactly type_ok system_ok assignments_ok is_unsigned unsigned is_signed signed column exact_ok first_or tables_of layout_in tables_accepted lines_read fits read_kernel kernel_given front fronts lists_after
value_rules = Unit {0}

unfoldable pub reading : Type 0
unfolding computing bytes line_rules number_rules token_rules assignment_rules value_rules
reading = Unit {0}
