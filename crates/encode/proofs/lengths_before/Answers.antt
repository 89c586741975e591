use mathlib.Core.Path.{refl}
use borrow.Author.Rules.{rules}
use Rattle.encode.proofs.Sums.{before_start, before_next, ends_at_start, before_fits, before_all}
use Rattle.encode.proofs.lengths_before.Goals as goal

pub loop-i-init : goal.loop-i-init
loop-i-init c = search (before_start, rules)

pub overflow_sub-before : goal.overflow_sub-before
overflow_sub-before c = ends_at_start _ _ _ _ _ refl refl c.requires.listed _ refl (search rules)

pub overflow_add-before : goal.overflow_add-before
overflow_add-before c = before_fits _ _ _ _ _ refl refl c.requires.listed _ refl (search rules) _ (search rules)

pub loop-i-preserved : goal.loop-i-preserved
loop-i-preserved c = search (before_next, refl, rules)

pub returns : goal.returns
returns c = search (before_all, rules)
