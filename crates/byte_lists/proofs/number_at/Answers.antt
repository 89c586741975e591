use Rattle.std.proofs.Common.{rules}
use Rattle.c_rules.proofs.Bytes.{inside, number_is}
use Rattle.byte_lists.proofs.number_at.Goals as goal

pub bits_at-requires : goal.bits_at-requires
bits_at-requires c = search (inside, rules)

pub returns : goal.returns
returns c = search (number_is, rules)
