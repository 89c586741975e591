use borrow.Author.Rules.{rules}
use Rattle.packet_read.proofs.Ticks.{fine_fits, ticks_capped}
use Rattle.packet_read.proofs.count_ticks.Goals as goal

pub overflow_mul-fine : goal.overflow_mul-fine
overflow_mul-fine c = search (fine_fits, rules)

pub returns : goal.returns
returns c = search (ticks_capped, rules)
