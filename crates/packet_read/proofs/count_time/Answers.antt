use borrow.Author.Rules.{rules}
use Rattle.packet_read.proofs.Ticks.{time_capped}
use Rattle.packet_read.proofs.count_time.Goals as goal

pub returns : goal.returns
returns c = search (time_capped, rules)
