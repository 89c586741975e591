use borrow.Author.Rules.{rules}
use Rattle.number_text.proofs.Bytes.{number_fits, number_written}
use Rattle.number_text.proofs.put_number.Goals as goal

pub returns-clause-written : goal.returns-clause-written
returns-clause-written c = search (number_written, rules)

pub write_digits-requires : goal.write_digits-requires
write_digits-requires c = search (number_fits, rules)
