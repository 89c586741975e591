use Rattle.quotient.proofs.Zeros.{no_zeros, all_zeros, some_zeros, rest_fits}
use Rattle.std.proofs.Common.{rules}
use Rattle.quotient.proofs.skip_zeros.Goals as goal

pub returns-then-n-m : goal.returns-then-n-m
returns-then-n-m c = search (all_zeros, rules)

pub returns-then-m-n : goal.returns-then-m-n
returns-then-m-n c = search (no_zeros, rules)

pub overflow_add-result : goal.overflow_add-result
overflow_add-result c = search (rest_fits, rules)

pub returns : goal.returns
returns c = search (some_zeros, rules)
