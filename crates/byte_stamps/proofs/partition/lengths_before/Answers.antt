use mathlib.Core.Path.{refl}
use borrow.Author.Rules.{rules}
use Rattle.encode.proofs.Sums.{before_start, before_next, in-ends, before_fits, before_all}
use Rattle.byte_stamps.proofs.partition.lengths_before.Goals as goal

pub number_at-requires : goal.number_at-requires
number_at-requires c = in-ends _ _ c.requires.listed _ refl _ (search rules)

pub overflow_add-before : goal.overflow_add-before
overflow_add-before c = rw c.less-before.ensures (before_fits _ _ _ _ _ c.number_at-in-loop-i.ensures c.number_at.ensures c.requires.listed _ refl (search rules) _ (search rules))

pub loop-i-preserved : goal.loop-i-preserved
loop-i-preserved c = (rw c.less-before.ensures (before_next _ _ _ _ _ c.number_at-in-loop-i.ensures c.number_at.ensures _ (search rules)))

pub loop-i-init : goal.loop-i-init
loop-i-init c = search (before_start, rules)

pub returns : goal.returns
returns c = search (before_all, rules)
