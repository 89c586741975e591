use Rattle.kernel_values.proofs.Numbers.{time_none, time_told}
use borrow.Author.Rules.{rules}
use Rattle.kernel_values.proofs.time_of.Goals as goal

pub returns-in-Malformed : goal.returns-in-Malformed
returns-in-Malformed c = time_none _ c.in-Malformed.is

pub returns-in-Plus : goal.returns-in-Plus
returns-in-Plus c = search (time_told, rules)

pub returns-in-Minus : goal.returns-in-Minus
returns-in-Minus c = search (time_told, rules)
