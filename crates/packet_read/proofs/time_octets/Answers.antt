use borrow.Author.Rules.{rules}
use Rattle.packet_read.proofs.Forms.{octets_are}
use Rattle.packet_read.proofs.time_octets.Goals as goal

pub returns-clause-value : goal.returns-clause-value
returns-clause-value c = search (octets_are, rules)

pub returns-clause-coarse_bound : goal.returns-clause-coarse_bound
returns-clause-coarse_bound c = (search rules, search rules)
