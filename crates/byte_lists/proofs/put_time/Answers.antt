use Rattle.std.proofs.Common.{rules}
use Rattle.byte_lists.proofs.Words.{time_put}
use Rattle.byte_lists.proofs.put_time.Goals as goal

pub returns : goal.returns
returns c = search (time_put, rules)
