use Rattle.kernel_values.proofs.Numbers.{plus_fits, plus_beyond}
use borrow.Author.Rules.{rules}
use Rattle.kernel_values.proofs.plus_time.Goals as goal

pub returns-then-v-lt-LIMIT : goal.returns-then-v-lt-LIMIT
returns-then-v-lt-LIMIT c = search (plus_fits, rules)

pub returns-else-v-lt-LIMIT : goal.returns-else-v-lt-LIMIT
returns-else-v-lt-LIMIT c = search (plus_beyond, rules)
