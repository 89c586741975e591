use borrow.Author.Rules.{rules}
use Rattle.packet_bytes.proofs.Parts.{data_room, front_room, packet_written}
use Rattle.packet_bytes.proofs.write_all.Goals as goal

pub write_data-middle-requires : goal.write_data-middle-requires
write_data-middle-requires c = search (data_room, rules)

pub write_front-requires : goal.write_front-requires
write_front-requires c = search (front_room, rules)

pub returns : goal.returns
returns c = search (packet_written, rules)
