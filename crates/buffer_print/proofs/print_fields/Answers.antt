use Rattle.buffer_print.proofs.Fitting.{fields_room, fields_fit, fields_short}
use borrow.Author.Rules.{rules}
use Rattle.buffer_print.proofs.print_fields.Goals as goal

pub returns-then-buffer-count_bytes : goal.returns-then-buffer-count_bytes
returns-then-buffer-count_bytes c = search (fields_short, rules)

pub write_fields-requires-clause-room : goal.write_fields-requires-clause-room
write_fields-requires-clause-room c = search (fields_room, rules)

pub returns : goal.returns
returns c = search (fields_fit, rules)
