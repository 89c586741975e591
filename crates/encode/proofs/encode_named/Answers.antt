use mathlib.Core.Path.{refl}
use Rattle.encode.proofs.Sums.{named_inside, named_outside, from_start, encoded_fits}
use borrow.Author.Rules.{rules}
use Rattle.encode.proofs.encode_named.Goals as goal

pub overflow_sub-result : goal.overflow_sub-result
overflow_sub-result c = search (from_start, rules)

pub overflow_add-result : goal.overflow_add-result
overflow_add-result c = encoded_fits _ _ _ _ _ refl refl _ _ c.is_within.ensures _ c.requires _ refl (search rules) c.lengths_before-before.ensures c.if-is_within.true

pub returns-then-is_within : goal.returns-then-is_within
returns-then-is_within c = search (named_inside, refl, rules)

pub returns : goal.returns
returns c = search (named_outside, refl, rules)
