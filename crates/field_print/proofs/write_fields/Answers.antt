use borrow.Author.Rules.{rules}
use Rattle.field_print.proofs.LastToFirst.{at_last, at_next, later_modulus, later_offset, later_fits, first_fits, fields_start, later_room, later_next, first_room, first_done}
use Rattle.field_print.proofs.write_fields.Goals as goal

pub loop-i-init : goal.loop-i-init
loop-i-init c = (search (at_last, rules), search (fields_start, rules))

pub nonzero_rem-rest : goal.nonzero_rem-rest
nonzero_rem-rest c = search (later_modulus, rules)

pub overflow_add-rest : goal.overflow_add-rest
overflow_add-rest c = search (later_fits, later_offset, rules)

pub write_later_field-at-requires : goal.write_later_field-at-requires
write_later_field-at-requires c = search (later_room, rules)

pub nonzero_div-rest : goal.nonzero_div-rest
nonzero_div-rest c = search (later_modulus, rules)

pub loop-i-preserved : goal.loop-i-preserved
loop-i-preserved c = (search (at_next, rules), search (later_next, rules))

pub overflow_add-rest-2 : goal.overflow_add-rest-2
overflow_add-rest-2 c = search (first_fits, rules)

pub write_digits-requires : goal.write_digits-requires
write_digits-requires c = search (first_room, rules)

pub returns : goal.returns
returns c = search (first_done, rules)
