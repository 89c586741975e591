use borrow.Author.Rules.{rules}
use Rattle.byte_tables.proofs.Given.{moduli_there, offsets_there}
use Rattle.byte_tables.proofs.layout.layout_of.Goals as goal

pub returns : goal.returns
returns c = rw (c.slots_of.ensures, c.slots_of-2.ensures, c.fields_given-fields.ensures, c.code_given.ensures)

pub slots_of-requires : goal.slots_of-requires
slots_of-requires c = search (moduli_there, rules)

pub slots_of-requires-2 : goal.slots_of-requires-2
slots_of-requires-2 c = search (offsets_there, rules)
