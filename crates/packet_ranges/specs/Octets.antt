-- What the ranges say of the time's octets.
use Rattle.std.specs.Prelude.{◌≤◌}
use Rattle.packet_rules.specs.declared.TimeOctets.{TimeOctets}
use Rattle.packet_rules.specs.Header.{most_coarse, most_fine}

-- "1 to 4 coarse and 0 to 3 fine octets"
pub record OctetsFacts (o : TimeOctets) : Type 0 where
  pub some_coarse : 1 ≤ o.coarse
  pub coarse : o.coarse ≤ most_coarse
  pub fine : o.fine ≤ most_fine
