use Rattle.succession_within.proofs.Asked.{shared_fit}
use Rattle.succession_within.proofs.succeeds_within.Goals as goal

pub further_low-further-requires : goal.further_low-further-requires
further_low-further-requires c = shared_fit _ _ _ _ _ _ _ c.shared_rows-segment.ensures c.if-segment-older_counts.false
