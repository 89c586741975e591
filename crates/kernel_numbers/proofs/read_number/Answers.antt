use Rattle.kernel_numbers.proofs.Whole.{long_number}
use borrow.Author.Rules.{rules}
use Rattle.kernel_numbers.proofs.read_number.Goals as goal

pub returns-then-w-gt-LONGEST_LINE : goal.returns-then-w-gt-LONGEST_LINE
returns-then-w-gt-LONGEST_LINE c = search (long_number, rules)
