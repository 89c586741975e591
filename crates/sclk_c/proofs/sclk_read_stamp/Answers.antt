use borrow.Author.Rules.{rules}
use Rattle.sclk_c.proofs.Fitting.{stamp_fits, stamp_back}
use Rattle.sclk_c.proofs.sclk_read_stamp.Goals as goal

pub count_read-requires : goal.count_read-requires
count_read-requires c = search (stamp_fits, rules)

pub returns : goal.returns
returns c = search (stamp_back, rules)
