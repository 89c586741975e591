use Rattle.succession_rules.specs.Succession.{succession}
use Rattle.succession.proofs.Calls.{both_answered}
use Rattle.succession.proofs.succeeds.Goals as goal

pub returns : goal.returns
unfolding succession
returns c = both_answered _ _ _ _ _ c.in_ok-older_basis.ensures.facts c.succeeds_within-succession.ensures
