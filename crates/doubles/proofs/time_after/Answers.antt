use Rattle.rules.specs.Doubles.{time_after}
use Rattle.doubles.proofs.time_after.Goals as goal

pub returns : goal.returns
unfolding time_after
returns c = cc
