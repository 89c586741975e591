use borrow.Author.Rules.{rules}
use Rattle.command_numbers.proofs.Counts.{count_long, count_other, count_none, count_is}
use Rattle.command_numbers.proofs.read_count.Goals as goal

pub returns-then-n-gt-LONGEST_TEXT : goal.returns-then-n-gt-LONGEST_TEXT
returns-then-n-gt-LONGEST_TEXT c = search (count_long, rules)

pub returns-then-at-n : goal.returns-then-at-n
returns-then-at-n c = search (count_other, rules)

pub returns-then-n-eq0 : goal.returns-then-n-eq0
returns-then-n-eq0 c = search (count_none, rules)

pub returns : goal.returns
returns c = search (count_is, rules)
