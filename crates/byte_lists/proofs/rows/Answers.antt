use Rattle.std.proofs.Common.{rules}
use Rattle.c_rules.proofs.Bytes.{in_eights, not_in_eights}
use Rattle.byte_lists.proofs.rows.Goals as goal

pub returns-else-s-eq0 : goal.returns-else-s-eq0
returns-else-s-eq0 c = search (not_in_eights, rules)

pub returns-then-s-eq0 : goal.returns-then-s-eq0
returns-then-s-eq0 c = search (in_eights, rules)
