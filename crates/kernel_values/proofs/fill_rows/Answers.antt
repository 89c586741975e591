use borrow.Author.Rules.{rules}
use Prim.Native.Nat.{◌-◌}
use Rattle.kernel_values.proofs.Filling.{row_start, row_turn, row_less, row_read, row_counts, row_times, row_rates}
use Rattle.kernel_values.proofs.fill_rows.Goals as goal

pub returns-clause-value : goal.returns-clause-value
returns-clause-value c = search (row_read, rules)

pub returns-clause-counts_after : goal.returns-clause-counts_after
returns-clause-counts_after c = search (row_counts, rules)

pub returns-clause-times_after : goal.returns-clause-times_after
returns-clause-times_after c = search (row_times, rules)

pub returns-clause-rates_after : goal.returns-clause-rates_after
returns-clause-rates_after c = search (row_rates, rules)

pub loop-v-init : goal.loop-v-init
loop-v-init c = search (row_start, rules)

pub loop-v-smaller : goal.loop-v-smaller
loop-v-smaller c = search (row_less, rules)

pub loop-v-preserved : goal.loop-v-preserved
loop-v-preserved c = search (row_turn, rules)
