-- `unfolding command` lets tables of cases compute.
use Rattle.rules.specs.Computing.{computing}
use Rattle.rules.specs.Examples.{bytes, layout_a, partitions_a, segments_a}
use Rattle.rules.specs.StampTime.{with_time, time_of_stamp, time_of_message}
use Rattle.lines.specs.Lines.{lines_of, with_byte}
use Rattle.line_output.specs.Output.{answers_of, output_of}
use Rattle.versions.specs.Equal.{eq_z}
use Rattle.succession_rules.specs.Computing.{two_tables}
use Rattle.number_text.specs.Numbers.{decimal_of, time_bytes}
use Rattle.command_rules.specs.Sentences.{entry_or, sentences, sentence}
use Rattle.command_rules.specs.Fields.{pointed, amount_text, time_text, difference_text, rate_text, place_text, refusal_text}
use Rattle.command_rules.specs.Input.{without_return, first_other, spelled_from, read_count, is_minus, sign_length, unsigned, with_sign, read_time, whole_part, decimals, point_fault, nanoseconds, is_exact, read_seconds, read_time_by, is_hex, worth, bytes_of, read_hex}
use Rattle.command_rules.specs.Lines.{answered_line, message_by, both_fields, time_fields, time_line, stamp_line, count_field, count_line, both_line, refused_line, compare_line, line_by, line_of}
use Rattle.command_rules.specs.Verdict.{condition_name, succeeds_line, horizon_line, verdict_text}
use Rattle.command_rules.specs.Describe.{rows_text, count_below, number_line, system_name, clock_line, system_line, delimiter_line, field_line, partition_line, reached, jump_text, segment_line, is_gap, head_text, tail_text, describe_text}

unfoldable pub command : Type 0
unfolding computing two_tables bytes layout_a partitions_a segments_a with_time time_of_stamp time_of_message lines_of with_byte answers_of output_of eq_z decimal_of time_bytes entry_or sentences sentence pointed amount_text time_text difference_text rate_text place_text refusal_text without_return first_other spelled_from read_count is_minus sign_length unsigned with_sign read_time whole_part decimals point_fault nanoseconds is_exact read_seconds read_time_by is_hex worth bytes_of read_hex answered_line message_by both_fields time_fields time_line stamp_line count_field count_line both_line refused_line compare_line line_by line_of condition_name succeeds_line horizon_line verdict_text rows_text count_below number_line system_name clock_line system_line delimiter_line field_line partition_line reached jump_text segment_line is_gap head_text tail_text describe_text
command = Unit {0}
