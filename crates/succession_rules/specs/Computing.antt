-- `unfolding two_tables` lets tables of cases compute.
use Rattle.rules.specs.Computing.{computing}
use Rattle.rules.specs.Examples.{layout_a, partitions_a, segments_a}
use Rattle.rules.specs.CallEdges.{no_layout}
use Rattle.versions.specs.Equal.{eq_z, same}
use Rattle.succession_rules.specs.OfTwo.{checked, refused_first}
use Rattle.succession_rules.specs.Kept.{row_or, same_layout, end_kept, partition_kept, partition_lost, same_segment, segment_kept, segment_lost, further_above, further_low, seam_back}
use Rattle.succession_rules.specs.Succession.{unless_fails, verdict, succession}
use Rattle.succession_rules.specs.Horizon.{shared_rows, begins_at, agree_below, stamps_kept, horizon_in, horizon_of}

unfoldable pub two_tables : Type 0
unfolding computing layout_a partitions_a segments_a no_layout eq_z same checked refused_first same_layout end_kept partition_kept partition_lost same_segment segment_kept segment_lost further_above further_low seam_back unless_fails verdict succession row_or shared_rows begins_at agree_below stamps_kept horizon_in horizon_of
two_tables = Unit {0}
