use borrow.Author.Rules.{rules}
use Rattle.kernel_lines.proofs.Trimming.{return_none, return_here, return_other}
use Rattle.kernel_lines.proofs.trim_return.Goals.{else-n-gt0-via-then-n-gt0+else-l-n-eq-RETURN, else-n-gt0-via-else-n-gt0}
use Rattle.kernel_lines.proofs.trim_return.Goals as goal

pub returns-then-l-n-eq-RETURN-clause-value : goal.returns-then-l-n-eq-RETURN-clause-value
returns-then-l-n-eq-RETURN-clause-value c = search (return_here, rules)

pub returns-else-n-gt0-clause-value : goal.returns-else-n-gt0-clause-value
returns-else-n-gt0-clause-value c = elim c.else-n-gt0.branch [ else-n-gt0-via-then-n-gt0+else-l-n-eq-RETURN w ↦ return_other _ _ w.if-n-gt0.true w.if-l-n-eq-RETURN.false | else-n-gt0-via-else-n-gt0 w ↦ return_none _ _ w.if-n-gt0.false ]
