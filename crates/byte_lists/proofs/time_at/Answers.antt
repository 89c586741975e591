use Rattle.std.proofs.Common.{rules}
use Rattle.c_rules.proofs.Bytes.{time_inside, time_is}
use Rattle.byte_lists.proofs.Words.{signed_is}
use Rattle.byte_lists.proofs.time_at.Goals as goal

pub number_at-requires : goal.number_at-requires
number_at-requires c = search (time_inside, rules)

pub returns : goal.returns
returns c = search (time_is, signed_is, rules)
