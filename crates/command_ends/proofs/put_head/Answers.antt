use borrow.Author.Rules.{rules}
use Rattle.command_ends.proofs.Heads.{fields_in, head_put}
use Rattle.command_ends.proofs.put_head.Goals as goal

pub put_fields-requires-clause-fields_in : goal.put_fields-requires-clause-fields_in
put_fields-requires-clause-fields_in c = search (fields_in, rules)

pub returns-clause-written : goal.returns-clause-written
returns-clause-written c = search (head_put, rules)
