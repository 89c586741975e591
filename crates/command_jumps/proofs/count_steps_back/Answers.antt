use borrow.Author.Rules.{rules}
use Rattle.command_jumps.proofs.Jumps.{count_fits}
use Rattle.command_jumps.proofs.count_steps_back.Goals as goal

pub overflow_add-found : goal.overflow_add-found
overflow_add-found c = search (count_fits, rules)
