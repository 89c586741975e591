use Rattle.succession_rules.specs.Horizon.{horizon_of}
use Rattle.succession.proofs.Calls.{both_answered}
use Rattle.succession.proofs.horizon.Goals as goal

pub returns : goal.returns
unfolding horizon_of
returns c = both_answered _ _ _ _ _ c.in_ok-older_basis.ensures.facts c.horizon_within-below.ensures
