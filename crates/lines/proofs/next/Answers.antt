use Rattle.lines.proofs.Step.{line_is, step_ended, step_open}
use borrow.Author.Rules.{rules}
use Rattle.lines.proofs.next.Goals as goal

pub returns-then-end-chunk-clause-value : goal.returns-then-end-chunk-clause-value
returns-then-end-chunk-clause-value c = search (step_ended, rules)

pub returns-then-end-chunk-clause-line_after : goal.returns-then-end-chunk-clause-line_after
returns-then-end-chunk-clause-line_after c = search (line_is, rules)

pub returns-clause-value : goal.returns-clause-value
returns-clause-value c = search (step_open, rules)

pub returns-clause-line_after : goal.returns-clause-line_after
returns-clause-line_after c = search (line_is, rules)
