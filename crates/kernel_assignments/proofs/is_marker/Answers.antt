use Rattle.kernel_assignments.proofs.Stages.{marker_is}
use borrow.Author.Rules.{rules}
use Rattle.kernel_assignments.proofs.is_marker.Goals as goal

pub returns : goal.returns
returns c = search (marker_is, rules)
