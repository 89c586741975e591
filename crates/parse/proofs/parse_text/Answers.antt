use borrow.Author.Rules.{rules}
use Rattle.parse.proofs.Parse.{text_long, text_short}
use Rattle.parse.proofs.parse_text.Goals as goal

pub returns-then-text-gt-LONGEST_TEXT : goal.returns-then-text-gt-LONGEST_TEXT
returns-then-text-gt-LONGEST_TEXT c = search (text_long, rules)

pub returns : goal.returns
returns c = search (text_short, rules)
