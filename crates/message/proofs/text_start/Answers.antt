use Rattle.message.proofs.Trailer.{too_short_lem, none_back, too_far, in_reach, begins}
use borrow.Author.Rules.{rules}
use Rattle.message.proofs.text_start.Goals as goal

pub returns-then-length-lt2 : goal.returns-then-length-lt2
returns-then-length-lt2 c = search (too_short_lem, rules)

pub returns-then-distance-lt1 : goal.returns-then-distance-lt1
returns-then-distance-lt1 c = search (none_back, rules)

pub returns-then-not-is_near : goal.returns-then-not-is_near
returns-then-not-is_near c = search (too_far, rules)

pub overflow_sub-result : goal.overflow_sub-result
overflow_sub-result c = search (in_reach, rules)

pub returns : goal.returns
returns c = search (begins, rules)
