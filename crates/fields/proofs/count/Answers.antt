use borrow.Author.Rules.{rules}
use Rattle.fields.proofs.Steps.{sum_capped, total_surplus, total_count, total_missing, total_below, total_above, total_one_more}
use Rattle.fields.proofs.count.Goals as goal

pub returns-then-moduli-field : goal.returns-then-moduli-field
returns-then-moduli-field c = search (total_surplus, rules)

pub count_of-requires : goal.count_of-requires
count_of-requires c = (search rules, search (sum_capped, rules))

pub returns-in-None : goal.returns-in-None
returns-in-None c = search (total_count, rules)

pub returns-in-Missing : goal.returns-in-Missing
returns-in-Missing c = search (total_missing, rules)

pub returns-in-Below : goal.returns-in-Below
returns-in-Below c = search (total_below, rules)

pub returns-in-Above : goal.returns-in-Above
returns-in-Above c = search (total_above, rules)

pub returns-in-Surplus : goal.returns-in-Surplus
returns-in-Surplus c = search (total_one_more, rules)
