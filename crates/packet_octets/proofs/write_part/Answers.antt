use borrow.Author.Rules.{rules}
use Rattle.packet_octets.proofs.Writing.{part_written}
use Rattle.packet_octets.proofs.write_part.Goals as goal

pub returns : goal.returns
returns c = search (part_written, rules)
