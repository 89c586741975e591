use borrow.Author.Rules.{rules}
use Rattle.kernel_numbers.proofs.Steps.{shift_down, shift_up}
use Rattle.kernel_numbers.proofs.shifted.Goals as goal

pub returns-then-down : goal.returns-then-down
returns-then-down c = search (shift_down, rules)

pub returns-else-down : goal.returns-else-down
returns-else-down c = search (shift_up, rules)
