use borrow.Author.Rules.{rules}
use Rattle.sclk_c.proofs.Fitting.{time_fits, time_back, time_left}
use Rattle.sclk_c.proofs.sclk_time_of.Goals as goal

pub time_given-requires : goal.time_given-requires
time_given-requires c = search (time_fits, rules)

pub returns-clause-value : goal.returns-clause-value
returns-clause-value c = search (time_back, rules)

pub returns-clause-time_after : goal.returns-clause-time_after
returns-clause-time_after c = search (time_left, rules)
