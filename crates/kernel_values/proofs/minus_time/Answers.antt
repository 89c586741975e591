use Rattle.kernel_values.proofs.Numbers.{minus_fits, minus_beyond}
use borrow.Author.Rules.{rules}
use Rattle.kernel_values.proofs.minus_time.Goals as goal

pub returns-then-v-le-LIMIT : goal.returns-then-v-le-LIMIT
returns-then-v-le-LIMIT c = search (minus_fits, rules)

pub returns-else-v-le-LIMIT : goal.returns-else-v-le-LIMIT
returns-else-v-le-LIMIT c = search (minus_beyond, rules)
