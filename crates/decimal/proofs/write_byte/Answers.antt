use borrow.Author.Rules.{rules}
use Rattle.decimal.proofs.RightToLeft.{byte_written}
use Rattle.decimal.proofs.write_byte.Goals as goal

pub returns : goal.returns
returns c = search (byte_written, rules)
