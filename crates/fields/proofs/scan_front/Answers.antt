use borrow.Author.Rules.{rules}
use Rattle.fields.proofs.Steps.{front_begun, front_turn_blank, front_turn_digit, front_digit_at_least, front_stop, front_ended}
use Rattle.fields.proofs.scan_front.Goals as goal

pub loop-at-init : goal.loop-at-init
loop-at-init c = (search rules, search (front_begun, rules))

pub loop-at-preserved-then-byte-eq32 : goal.loop-at-preserved-then-byte-eq32
loop-at-preserved-then-byte-eq32 c = (search rules, search (front_turn_blank, rules))

pub loop-at-preserved : goal.loop-at-preserved
loop-at-preserved c = (search rules, search (front_turn_digit, rules))

pub overflow_sub-byte : goal.overflow_sub-byte
overflow_sub-byte c = search (front_digit_at_least, rules)

pub returns-else-begins_or_continues : goal.returns-else-begins_or_continues
returns-else-begins_or_continues c = search (front_stop, rules)

pub returns : goal.returns
returns c = search (front_ended, rules)
