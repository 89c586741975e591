use borrow.Author.Rules.{rules}
use Rattle.command_numbers.proofs.Times.{time_long, time_other, time_none, time_is}
use Rattle.command_numbers.proofs.nanoseconds_in.Goals as goal

pub returns-then-n-gt-LONGEST_TEXT : goal.returns-then-n-gt-LONGEST_TEXT
returns-then-n-gt-LONGEST_TEXT c = search (time_long, rules)

pub returns-then-at-n : goal.returns-then-at-n
returns-then-at-n c = search (time_other, rules)

pub returns-then-n-first : goal.returns-then-n-first
returns-then-n-first c = search (time_none, rules)

pub returns : goal.returns
returns c = search (time_is, rules)
