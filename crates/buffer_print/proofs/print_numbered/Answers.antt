use Rattle.buffer_print.proofs.Numbered.{numbered_room, rest_room, numbered_fit, numbered_short}
use Rattle.field_print.proofs.Widths.{print_length}
use borrow.Author.Rules.{rules}
use Rattle.buffer_print.proofs.print_numbered.Goals as goal

pub write_fields-at-requires-clause-room : goal.write_fields-at-requires-clause-room
write_fields-at-requires-clause-room c = search (numbered_room, print_length, rules)

pub write_number-requires-clause-room : goal.write_number-requires-clause-room
write_number-requires-clause-room c = search (rest_room, print_length, rules)

pub returns-then-buffer-stamp_bytes : goal.returns-then-buffer-stamp_bytes
returns-then-buffer-stamp_bytes c = search (numbered_short, print_length, rules)

pub returns : goal.returns
returns c = search (numbered_fit, print_length, rules)
