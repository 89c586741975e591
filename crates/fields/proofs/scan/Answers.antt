use borrow.Author.Rules.{rules}
use Rattle.fields.proofs.Steps.{digit_at_least, turn_digit, turn_mark, turn_blank, stop, ended}
use Rattle.fields.proofs.scan.Goals as goal

pub loop-at-preserved-then-is_digit : goal.loop-at-preserved-then-is_digit
loop-at-preserved-then-is_digit c = (search rules, search (turn_digit, rules))

pub loop-at-preserved-then-is_mark : goal.loop-at-preserved-then-is_mark
loop-at-preserved-then-is_mark c = (search rules, search (turn_mark, rules))

pub loop-at-preserved : goal.loop-at-preserved
loop-at-preserved c = (search rules, search (turn_blank, rules))

pub overflow_sub-byte : goal.overflow_sub-byte
overflow_sub-byte c = search (digit_at_least, rules)

pub returns-else-byte-eq32 : goal.returns-else-byte-eq32
returns-else-byte-eq32 c = search (stop, rules)

pub returns : goal.returns
returns c = search (ended, rules)
