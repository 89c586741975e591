use Rattle.tables.proofs.Accepting.{unit_divides}
use Rattle.byte_tables.proofs.accept.Goals as goal

pub check_segments-requires : goal.check_segments-requires
check_segments-requires c = unit_divides _ _ _ c.requires c.accept_stamps.ensures c.in_ok-b.b c.in_ok-b.was
