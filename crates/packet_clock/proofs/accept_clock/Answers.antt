use borrow.Author.Rules.{rules}
use Rattle.packet_clock.proofs.Accepted.{not_two, two_fields}
use Rattle.packet_clock.proofs.accept_clock.Goals as goal

pub returns-then-layout-ne2 : goal.returns-then-layout-ne2
returns-then-layout-ne2 c = search (not_two, rules)

pub returns : goal.returns
returns c = search (two_fields, rules)
