use borrow.Author.Rules.{rules}
use Rattle.packet_read.proofs.Forms.{header_is}
use Rattle.packet_read.proofs.header_of.Goals as goal

pub returns : goal.returns
returns c = search (header_is, rules)
