use Rattle.rules.specs.Doubles.{count_after}
use Rattle.doubles.proofs.count_after.Goals as goal

pub returns : goal.returns
unfolding count_after
returns c = cc
