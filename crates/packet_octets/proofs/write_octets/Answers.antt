use borrow.Author.Rules.{rules}
use Rattle.packet_octets.proofs.Writing.{octets_before, octets_all, octet_next, octets_done}
use Rattle.packet_octets.proofs.write_octets.Goals as goal

pub overflow_sub-start : goal.overflow_sub-start
overflow_sub-start c = search (octets_before, rules)

pub loop-at-init : goal.loop-at-init
loop-at-init c = search (octets_all, rules)

pub loop-at-preserved : goal.loop-at-preserved
loop-at-preserved c = search (octet_next, rules)

pub returns : goal.returns
returns c = search (octets_done, rules)
