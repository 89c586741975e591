use borrow.Author.Rules.{rules}
use Rattle.packet_octets.proofs.Numbers.{read_start, times_fits, sum_fits, read_next, read_all, read_small}
use Rattle.packet_octets.proofs.number_at.Goals as goal

pub loop-i-init : goal.loop-i-init
loop-i-init c = search (read_start, rules)

pub overflow_mul-x : goal.overflow_mul-x
overflow_mul-x c = search (times_fits, rules)

pub overflow_add-x : goal.overflow_add-x
overflow_add-x c = search (sum_fits, rules)

pub loop-i-preserved : goal.loop-i-preserved
loop-i-preserved c = search (read_next, rules)

pub returns-clause-value : goal.returns-clause-value
returns-clause-value c = search (read_all, rules)

pub returns-clause-upper_bound : goal.returns-clause-upper_bound
returns-clause-upper_bound c = search (read_small, rules)
