use borrow.Author.Rules.{rules}
use Rattle.sclk_c.proofs.Fitting.{count_fits, count_back}
use Rattle.sclk_c.proofs.sclk_count_at.Goals as goal

pub count_given-requires : goal.count_given-requires
count_given-requires c = search (count_fits, rules)

pub returns : goal.returns
returns c = search (count_back, rules)
