use borrow.Author.Rules.{rules}
use Rattle.base.proofs.Signed.{before_at_most}
use Rattle.command_segments.proofs.SegmentLines.{gap_put, back_put, neither_put}
use Rattle.command_segments.proofs.put_rest.Goals as goal

pub returns-then-line-next-clause-written : goal.returns-then-line-next-clause-written
returns-then-line-next-clause-written c = search (gap_put, rules)

pub returns-then-next-line-clause-written : goal.returns-then-next-line-clause-written
returns-then-next-line-clause-written c = search (back_put, rules)

pub returns-clause-written : goal.returns-clause-written
returns-clause-written c = search (neither_put, rules)

pub elapsed-requires : goal.elapsed-requires
elapsed-requires c = search (before_at_most, rules)

pub elapsed-requires-then-next-line : goal.elapsed-requires-then-next-line
elapsed-requires-then-next-line c = search (before_at_most, rules)
