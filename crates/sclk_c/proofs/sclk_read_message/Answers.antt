use borrow.Author.Rules.{rules}
use Rattle.sclk_c.proofs.Fitting.{message_fits, message_back}
use Rattle.sclk_c.proofs.sclk_read_message.Goals as goal

pub count_read-requires : goal.count_read-requires
count_read-requires c = search (message_fits, rules)

pub returns : goal.returns
returns c = search (message_back, rules)
