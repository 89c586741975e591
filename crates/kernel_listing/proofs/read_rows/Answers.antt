use borrow.Author.Rules.{rules}
use Rattle.kernel_listing.proofs.Lists.{absent_rows, absent_counts, absent_times, absent_rates, given_rows, given_counts, given_times, given_rates, kept_length}
use Rattle.kernel_listing.proofs.read_rows.Goals as goal

pub returns-then-at-eq0-clause-value : goal.returns-then-at-eq0-clause-value
returns-then-at-eq0-clause-value c = search (absent_rows, rules)

pub returns-then-at-eq0-clause-counts_after : goal.returns-then-at-eq0-clause-counts_after
returns-then-at-eq0-clause-counts_after c = search (absent_counts, rules)

pub returns-then-at-eq0-clause-times_after : goal.returns-then-at-eq0-clause-times_after
returns-then-at-eq0-clause-times_after c = search (absent_times, rules)

pub returns-then-at-eq0-clause-rates_after : goal.returns-then-at-eq0-clause-rates_after
returns-then-at-eq0-clause-rates_after c = search (absent_rates, rules)

pub returns-then-at-eq0-clause-counts_len_unchanged : goal.returns-then-at-eq0-clause-counts_len_unchanged
returns-then-at-eq0-clause-counts_len_unchanged c = (search rules, search rules, search rules)

pub returns-clause-value : goal.returns-clause-value
returns-clause-value c = search (given_rows, rules)

pub returns-clause-counts_after : goal.returns-clause-counts_after
returns-clause-counts_after c = search (given_counts, rules)

pub returns-clause-times_after : goal.returns-clause-times_after
returns-clause-times_after c = search (given_times, rules)

pub returns-clause-rates_after : goal.returns-clause-rates_after
returns-clause-rates_after c = search (given_rates, rules)

pub returns-clause-counts_len_unchanged : goal.returns-clause-counts_len_unchanged
returns-clause-counts_len_unchanged c = (search (kept_length, rules), search (kept_length, rules), search (kept_length, rules))
