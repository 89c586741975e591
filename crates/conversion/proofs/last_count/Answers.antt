use borrow.Author.Rules.{rules}
use mathlib.Core.Path.{refl}
use Rattle.conversion.proofs.Conversions.{next_positive_at, next_ends, last_ends}
use Rattle.conversion.proofs.last_count.Goals as goal

pub overflow_sub-result : goal.overflow_sub-result
overflow_sub-result c = search (next_positive_at, refl, rules)

pub returns-then-i-counts : goal.returns-then-i-counts
returns-then-i-counts c = search (next_ends, refl, rules)

pub returns : goal.returns
returns c = search (last_ends, refl, rules)
