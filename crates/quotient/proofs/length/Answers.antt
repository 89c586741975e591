use Rattle.quotient.proofs.Zeros.{upper_length, lower_length}
use Rattle.std.proofs.Common.{rules}
use Rattle.quotient.proofs.length.Goals as goal

pub returns-then-hi-eq0 : goal.returns-then-hi-eq0
returns-then-hi-eq0 c = search (lower_length 64, rules)

pub returns-else-hi-eq0 : goal.returns-else-hi-eq0
returns-else-hi-eq0 c = search (upper_length 64, rules)
