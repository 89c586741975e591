use Rattle.kernel_values.proofs.Storing.{judged_count, judged_time, judged_rate, number_in_lem, time_in, off_column, in-other, last_column}
use borrow.Author.Rules.{rules}
use Rattle.kernel_values.proofs.store_column.Goals as goal

pub returns-then-column-eq0-clause-value : goal.returns-then-column-eq0-clause-value
returns-then-column-eq0-clause-value c = search (judged_count, rules)

pub returns-then-column-eq0-clause-counts_after : goal.returns-then-column-eq0-clause-counts_after
returns-then-column-eq0-clause-counts_after c = search (number_in_lem, rules)

pub returns-then-column-eq0-clause-times_after : goal.returns-then-column-eq0-clause-times_after
returns-then-column-eq0-clause-times_after c = search (in-other, rules)

pub returns-then-column-eq0-clause-rates_after : goal.returns-then-column-eq0-clause-rates_after
returns-then-column-eq0-clause-rates_after c = search (in-other, rules)

pub returns-then-column-eq1-clause-value : goal.returns-then-column-eq1-clause-value
returns-then-column-eq1-clause-value c = search (judged_time, rules)

pub returns-then-column-eq1-clause-counts_after : goal.returns-then-column-eq1-clause-counts_after
returns-then-column-eq1-clause-counts_after c = search (off_column, rules)

pub returns-then-column-eq1-clause-times_after : goal.returns-then-column-eq1-clause-times_after
returns-then-column-eq1-clause-times_after c = search (time_in, rules)

pub returns-then-column-eq1-clause-rates_after : goal.returns-then-column-eq1-clause-rates_after
returns-then-column-eq1-clause-rates_after c = search (in-other, rules)

pub returns-clause-value : goal.returns-clause-value
returns-clause-value c = search (judged_rate, last_column, rules)

pub returns-clause-counts_after : goal.returns-clause-counts_after
returns-clause-counts_after c = search (off_column, rules)

pub returns-clause-times_after : goal.returns-clause-times_after
returns-clause-times_after c = search (off_column, rules)

pub returns-clause-rates_after : goal.returns-clause-rates_after
returns-clause-rates_after c = search (number_in_lem, last_column, rules)
