use borrow.Author.Rules.{rules}
use Rattle.segments.proofs.Steps.{row_in, none_start, times_up, none_turn, step_found, none_found}
use Rattle.segments.proofs.steps_back.Goals as goal

pub overtakes-requires-clause-time_value : goal.overtakes-requires-clause-time_value
overtakes-requires-clause-time_value c = search (times_up, rules)

pub row_at-row-requires : goal.row_at-row-requires
row_at-row-requires c = search (row_in, rules)

pub loop-i-init : goal.loop-i-init
loop-i-init c = search (none_start, rules)

pub row_at-next-requires : goal.row_at-next-requires
row_at-next-requires c = search (row_in, rules)

pub returns-then-overtakes : goal.returns-then-overtakes
returns-then-overtakes c = search (step_found, rules)

pub loop-i-preserved : goal.loop-i-preserved
loop-i-preserved c = search (none_turn, rules)

pub returns : goal.returns
returns c = search (none_found, rules)
