use Rattle.std.proofs.Common.{rules}
use Rattle.byte_lists.proofs.Eight.{full_slot, empty_slot}
use Rattle.byte_lists.proofs.slot.Goals as goal

pub returns-then-i-n : goal.returns-then-i-n
returns-then-i-n c = search (full_slot, rules)

pub returns-else-i-n : goal.returns-else-i-n
returns-else-i-n c = search (empty_slot, rules)
