use borrow.Author.Rules.{rules}
use Rattle.sclk_c.proofs.Fitting.{text_fits, text_back}
use Rattle.sclk_c.proofs.sclk_read_text.Goals as goal

pub count_read-requires : goal.count_read-requires
count_read-requires c = search (text_fits, rules)

pub returns : goal.returns
returns c = search (text_back, rules)
