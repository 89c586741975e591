use Rattle.tables.proofs.Accepting.{unit_divides}
use Rattle.tables.proofs.accept.Goals as goal

pub check-requires : goal.check-requires
check-requires c = unit_divides _ _ _ c.requires c.accept_stamps.ensures c.in_ok-b.b c.in_ok-b.was
