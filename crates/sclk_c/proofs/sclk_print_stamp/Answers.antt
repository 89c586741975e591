use borrow.Author.Rules.{rules}
use Rattle.sclk_c.proofs.Fitting.{stamp_print_fits, stamp_print_back, stamp_print_left}
use Rattle.sclk_c.proofs.sclk_print_stamp.Goals as goal

pub length_given-requires : goal.length_given-requires
length_given-requires c = search (stamp_print_fits, rules)

pub returns-clause-value : goal.returns-clause-value
returns-clause-value c = search (stamp_print_back, rules)

pub returns-clause-buffer_after : goal.returns-clause-buffer_after
returns-clause-buffer_after c = search (stamp_print_left, rules)
