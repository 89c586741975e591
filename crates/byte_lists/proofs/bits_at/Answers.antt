use Rattle.std.proofs.Common.{rules}
use Rattle.byte_lists.proofs.Eight.{joined_is}
use Rattle.byte_lists.proofs.bits_at.Goals as goal

pub returns : goal.returns
returns c = search (joined_is, rules)
