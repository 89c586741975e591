use Rattle.quotient.proofs.Fit.{down_large, down_fits}
use Rattle.std.proofs.Common.{rules}
use Rattle.quotient.proofs.div_down.Goals as goal

pub returns-then-d-hi : goal.returns-then-d-hi
returns-then-d-hi c = search (down_large, rules)

pub returns : goal.returns
returns c = search (down_fits, rules)
