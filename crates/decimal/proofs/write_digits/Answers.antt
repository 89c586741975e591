use borrow.Author.Rules.{rules}
use Rattle.decimal.proofs.Digits.{room_width, digits_all, digit_next, digits_done}
use Rattle.decimal.proofs.write_digits.Goals as goal

pub overflow_sub-start : goal.overflow_sub-start
overflow_sub-start c = search (room_width, rules)

pub loop-at-init : goal.loop-at-init
loop-at-init c = search (digits_all, rules)

pub loop-at-preserved : goal.loop-at-preserved
loop-at-preserved c = search (digit_next, rules)

pub returns : goal.returns
returns c = search (digits_done, rules)
