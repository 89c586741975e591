use Rattle.byte_tables.proofs.Given.{ten_slots}
use Rattle.byte_tables.proofs.layout.slots_of.Goals as goal

pub returns : goal.returns
returns c = rw (c.slot.ensures, c.slot-2.ensures, c.slot-3.ensures, c.slot-4.ensures, c.slot-5.ensures, c.slot-6.ensures, c.slot-7.ensures, c.slot-8.ensures, c.slot-9.ensures, c.slot-10.ensures) (ten_slots _)
