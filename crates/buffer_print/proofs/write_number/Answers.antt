use Rattle.buffer_print.proofs.Numbered.{number_room, number_written, slash_room}
use borrow.Author.Rules.{rules}
use Rattle.buffer_print.proofs.write_number.Goals as goal

pub write_byte-at-requires : goal.write_byte-at-requires
write_byte-at-requires c = search (slash_room, rules)

pub write_digits-requires : goal.write_digits-requires
write_digits-requires c = search (number_room, rules)

pub returns : goal.returns
returns c = search (number_written, rules)
