use borrow.Author.Rules.{rules}
use Rattle.command_text.proofs.Texts.{places_room, point_put}
use Rattle.command_text.proofs.put_pointed.Goals as goal

pub returns-clause-written : goal.returns-clause-written
returns-clause-written c = search (point_put, rules)

pub write_digits-requires : goal.write_digits-requires
write_digits-requires c = search (places_room, rules)
