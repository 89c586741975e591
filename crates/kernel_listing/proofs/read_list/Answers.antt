use borrow.Author.Rules.{rules}
use Rattle.kernel_listing.proofs.Lists.{absent_list, absent_numbers, given_list, given_kept, kept_length}
use Rattle.kernel_listing.proofs.read_list.Goals as goal

pub returns-then-at-eq0-clause-value : goal.returns-then-at-eq0-clause-value
returns-then-at-eq0-clause-value c = search (absent_list, rules)

pub returns-then-at-eq0-clause-out_after : goal.returns-then-at-eq0-clause-out_after
returns-then-at-eq0-clause-out_after c = search (absent_numbers, rules)

pub returns-clause-value : goal.returns-clause-value
returns-clause-value c = search (given_list, rules)

pub returns-clause-out_after : goal.returns-clause-out_after
returns-clause-out_after c = search (given_kept, rules)

pub returns-clause-out_len_unchanged : goal.returns-clause-out_len_unchanged
returns-clause-out_len_unchanged c = search (kept_length, rules)
