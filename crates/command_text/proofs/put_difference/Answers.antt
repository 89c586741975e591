use borrow.Author.Rules.{rules}
use Rattle.command_text.proofs.Texts.{later_put, earlier_put, other_way}
use Rattle.command_text.proofs.put_difference.Goals as goal

pub returns-then-from-to-clause-written : goal.returns-then-from-to-clause-written
returns-then-from-to-clause-written c = search (later_put, rules)

pub returns-clause-written : goal.returns-clause-written
returns-clause-written c = search (earlier_put, rules)

pub elapsed-requires-2 : goal.elapsed-requires-2
elapsed-requires-2 c = search (other_way, rules)
