use borrow.Author.Rules.{rules}
use Rattle.lines.proofs.Keeping.{found_here, found_later, found_last}
use Rattle.lines.proofs.line_end.Goals as goal

pub returns-then-chunk-i-eq-LINE_END-clause-value : goal.returns-then-chunk-i-eq-LINE_END-clause-value
returns-then-chunk-i-eq-LINE_END-clause-value c = search (found_here, rules)

pub returns-clause-value : goal.returns-clause-value
returns-clause-value c = search (found_last, rules)

pub loop-i-preserved : goal.loop-i-preserved
loop-i-preserved c = search (found_later, rules)
