use borrow.Author.Rules.{rules}
use Rattle.packet_octets.proofs.Numbers.{mask_some, masked, masked_small}
use Rattle.packet_octets.proofs.field.Goals as goal

pub overflow_sub-result : goal.overflow_sub-result
overflow_sub-result c = search (mask_some, rules)

pub returns : goal.returns
returns c = (search (masked, rules), search (masked_small, rules))
