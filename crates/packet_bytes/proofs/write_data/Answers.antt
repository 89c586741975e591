use borrow.Author.Rules.{rules}
use Rattle.packet_bytes.proofs.Parts.{second_room, first_room, both_written}
use Rattle.packet_bytes.proofs.write_data.Goals as goal

pub write_part-middle-requires : goal.write_part-middle-requires
write_part-middle-requires c = search (second_room, rules)

pub write_pair-requires : goal.write_pair-requires
write_pair-requires c = search (first_room, rules)

pub returns : goal.returns
returns c = search (both_written, rules)
