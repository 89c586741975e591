use Rattle.message.proofs.Trailer.{part_is}
use borrow.Author.Rules.{rules}
use Rattle.message.proofs.text_part.Goals as goal

pub returns : goal.returns
returns c = search (part_is, rules)
