use borrow.Author.Rules.{rules}
use Rattle.command_line.proofs.Lines.{older_facts, newer_facts, older_stamps, asks_time, asks_messages, asks_stamp, asks_count, asks_compare, asks_compare_messages}
use Rattle.command_line.proofs.put_text.Goals as goal

pub put_timed-requires-clause-stamps_facts : goal.put_timed-requires-clause-stamps_facts
put_timed-requires-clause-stamps_facts c = search (older_stamps, rules)

pub put_timed-requires-in-Messages-clause-stamps_facts : goal.put_timed-requires-in-Messages-clause-stamps_facts
put_timed-requires-in-Messages-clause-stamps_facts c = search (older_stamps, rules)

pub put_stamp_line-requires-clause-stamps_facts : goal.put_stamp_line-requires-clause-stamps_facts
put_stamp_line-requires-clause-stamps_facts c = search (older_stamps, rules)

pub put_count_line-requires-clause-table_facts : goal.put_count_line-requires-clause-table_facts
put_count_line-requires-clause-table_facts c = search (older_facts, rules)

pub stamp_time-requires : goal.stamp_time-requires
stamp_time-requires c = search (older_facts, rules)

pub hex_time-requires : goal.hex_time-requires
hex_time-requires c = search (older_facts, rules)

pub stamp_time-requires-in-Compare : goal.stamp_time-requires-in-Compare
stamp_time-requires-in-Compare c = search (older_facts, rules)

pub stamp_time-requires-in-Compare-2 : goal.stamp_time-requires-in-Compare-2
stamp_time-requires-in-Compare-2 c = search (newer_facts, rules)

pub hex_time-requires-in-CompareMessages : goal.hex_time-requires-in-CompareMessages
hex_time-requires-in-CompareMessages c = search (older_facts, rules)

pub hex_time-requires-in-CompareMessages-2 : goal.hex_time-requires-in-CompareMessages-2
hex_time-requires-in-CompareMessages-2 c = search (newer_facts, rules)

pub returns-in-Time : goal.returns-in-Time
returns-in-Time c = search (asks_time, rules)

pub returns-in-Messages : goal.returns-in-Messages
returns-in-Messages c = search (asks_messages, rules)

pub returns-in-Stamp : goal.returns-in-Stamp
returns-in-Stamp c = search (asks_stamp, rules)

pub returns-in-Count : goal.returns-in-Count
returns-in-Count c = search (asks_count, rules)

pub returns-in-Compare : goal.returns-in-Compare
returns-in-Compare c = search (asks_compare, rules)

pub returns-in-CompareMessages : goal.returns-in-CompareMessages
returns-in-CompareMessages c = search (asks_compare_messages, rules)
