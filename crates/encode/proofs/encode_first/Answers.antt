use mathlib.Core.Path.{refl}
use borrow.Author.Rules.{rules}
use Rattle.encode.proofs.Sums.{passed_start, passed_next, passed_here, passed_all, sum_of, from_start, encoded_fits, ends_at_start, before_fits}
use Rattle.encode.proofs.encode_first.Goals as goal

pub loop-i-init : goal.loop-i-init
loop-i-init c = search (passed_start, rules)

pub overflow_add-result : goal.overflow_add-result
overflow_add-result c = search (encoded_fits, sum_of, refl, rules)

pub overflow_add-before : goal.overflow_add-before
overflow_add-before c = search (before_fits, sum_of, refl, rules)

pub loop-i-preserved : goal.loop-i-preserved
loop-i-preserved c = passed_next _ _ _ _ _ c.loop-i.invariant _ _ refl refl _ c.is_within.ensures c.if-is_within.false

pub overflow_sub-result : goal.overflow_sub-result
overflow_sub-result c = search (from_start, rules)

pub returns-then-is_within : goal.returns-then-is_within
returns-then-is_within c = search (passed_here, refl, rules)

pub overflow_sub-before : goal.overflow_sub-before
overflow_sub-before c = search (ends_at_start, refl, rules)

pub returns : goal.returns
returns c = search (passed_all, refl, rules)
