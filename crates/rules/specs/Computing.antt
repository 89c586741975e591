-- One name for the definitions of every call but the double form: `unfolding computing` lets a table of cases compute.
use Rattle.base.specs.Scans.{all_of, all_below, some_below, all, product, first_below, first_not, last_below, or_else, sum_below}
use Rattle.base.specs.Rounding.{round_up, round_down}
use Rattle.base.specs.Signed.{later, elapsed}
use Rattle.rules.specs.Answer.{unless, unless_at, fails_at, and_then}
use Rattle.rules.specs.Layout.{layout_ok, product_of, msf_of, unit_of}
use Rattle.rules.specs.Partitions.{partitions_fault, partition_lengths_ok, partition_ok, total_of, lengths_before}
use Rattle.rules.specs.Segments.{
  segments_fault,
  segment_lengths_ok,
  within_total,
  segment_ok_at,
  segment_ok,
  row_ok,
  row_before,
  follows,
  line_ok,
  line_at,
  segment_end,
  overtakes,
  steps_back,
  steps_back_at,
}
use Rattle.rules.specs.Accepted.{accepted}
use Rattle.rules.specs.Text.{
  read_text,
  parse_text,
  bytes_count,
  fields_count,
  surplus_at,
  not_allowed_from,
  fields_from,
  between,
  with_digit,
  symbols_from,
  symbols_at,
  digit_after,
  after,
  after_blank,
  each_field,
  not_above,
  not_below,
  sum_of,
  ticks_of,
  value_of,
  value_from,
}
use Rattle.rules.specs.Stamp.{
  read_stamp,
  parse_stamp,
  parsed_at,
  slash_in,
  front_fault_from,
  stands_in_front,
  front_number,
  holds,
  encoded_in,
  encode,
  encode_named,
  encode_found,
  encode_first,
}
use Rattle.rules.specs.Message.{read_message, accepted_message, text_length, text_in}
use Rattle.rules.specs.Print.{
  print_count,
  print_stamp,
  stamp_print,
  count_print,
  fields_print,
  field_print,
  field_width,
  padded,
  last_digits,
  digit_count,
  digits_up_to,
  delimiter_byte,
  found_or_last,
  partition_of,
  decoded_in,
  fitting,
  length_printed,
  buffer_after,
}
use Rattle.rules.specs.Time.{
  time_of,
  time_in,
  time_on,
  segment_of,
  count_at,
  count_in,
  count_on,
  not_beyond,
  segment_at,
  ticks_since,
  line_count,
  stopped_at,
  steps_back_in,
}
use Rattle.rules.specs.StampTime.{with_time, time_of_stamp, time_of_message}

unfoldable pub scan_rules : Type 0
unfolding all_of all_below some_below all product first_below first_not last_below or_else sum_below round_up round_down later elapsed unless unless_at fails_at and_then
scan_rules = Unit {0}

unfoldable pub table_rules : Type 0
unfolding layout_ok product_of msf_of unit_of partitions_fault partition_lengths_ok partition_ok total_of lengths_before segments_fault segment_lengths_ok within_total segment_ok_at segment_ok row_ok row_before follows line_ok line_at segment_end accepted
table_rules = Unit {0}

unfoldable pub text_rules : Type 0
unfolding read_text parse_text bytes_count fields_count surplus_at not_allowed_from fields_from between with_digit symbols_from symbols_at digit_after after after_blank each_field not_above not_below sum_of ticks_of value_of value_from
text_rules = Unit {0}

unfoldable pub stamp_rules : Type 0
unfolding read_stamp parse_stamp parsed_at slash_in front_fault_from stands_in_front front_number holds encoded_in encode encode_named encode_found encode_first read_message accepted_message text_length text_in
stamp_rules = Unit {0}

unfoldable pub print_rules : Type 0
unfolding print_count print_stamp stamp_print count_print fields_print field_print field_width padded last_digits digit_count digits_up_to delimiter_byte found_or_last partition_of decoded_in fitting length_printed buffer_after
print_rules = Unit {0}

unfoldable pub time_rules : Type 0
unfolding time_of time_in time_on segment_of count_at count_in count_on not_beyond segment_at ticks_since line_count stopped_at overtakes steps_back steps_back_at steps_back_in with_time time_of_stamp time_of_message
time_rules = Unit {0}

unfoldable pub computing : Type 0
unfolding scan_rules table_rules text_rules stamp_rules print_rules time_rules
computing = Unit {0}
