use borrow.Author.Rules.{rules}
use Rattle.bench_partitions.proofs.Parts.{ticks_small, ticks_of_all}
use Rattle.bench_partitions.proofs.ticks.Goals as goal

pub returns : goal.returns
returns c = (search (ticks_small, rules), search (ticks_of_all, rules))
