use borrow.Author.Rules.{rules}
use Rattle.number_text.proofs.Bytes.{text_copied}
use Rattle.number_text.proofs.put_front.Goals as goal

pub returns-clause-written : goal.returns-clause-written
returns-clause-written c = search (text_copied, rules)
