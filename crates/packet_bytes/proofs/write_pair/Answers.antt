use borrow.Author.Rules.{rules}
use Rattle.packet_bytes.proofs.Parts.{second_room, first_room, both_written}
use Rattle.packet_bytes.proofs.write_pair.Goals as goal

pub write_octets-middle-requires : goal.write_octets-middle-requires
write_octets-middle-requires c = search (second_room, rules)

pub write_octets-requires : goal.write_octets-requires
write_octets-requires c = search (first_room, rules)

pub returns : goal.returns
returns c = search (both_written, rules)
