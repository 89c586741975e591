use Rattle.quotient.proofs.Fit.{up_large, up_fits, up_next}
use Rattle.std.proofs.Common.{rules}
use Rattle.quotient.proofs.div_up.Goals as goal

pub returns-then-d-hi : goal.returns-then-d-hi
returns-then-d-hi c = search (up_large, rules)

pub returns-then-by-eq0 : goal.returns-then-by-eq0
returns-then-by-eq0 c = search (up_fits, rules)

pub returns : goal.returns
returns c = search (up_next, rules)
