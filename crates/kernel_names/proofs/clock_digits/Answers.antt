use Rattle.kernel_names.proofs.Digits.{front_room, front_length, front_digits}
use borrow.Author.Rules.{rules}
use Rattle.kernel_names.proofs.clock_digits.Goals as goal

pub write_digits-requires : goal.write_digits-requires
write_digits-requires c = search (front_room, rules)

pub shape_of-buffer : goal.shape_of-buffer
shape_of-buffer c = search (front_length, rules)

pub returns-clause-buffer_after : goal.returns-clause-buffer_after
returns-clause-buffer_after c = search (front_digits, rules)
