-- `unfolding written_out` opens what the calls, the hypotheses and the questions compute by, for tables that are written out.
use Rattle.base.specs.Scans.{among}
use Rattle.rules.specs.Computing.{computing}
use Rattle.rules.specs.Examples.{bytes, layout_a, partitions_a, segments_a}
use Rattle.versions.specs.Versions.{shown}
use Rattle.versions.specs.Equal.{eq_z, same}
use Rattle.versions.specs.Needed.{ask, pair}
use Rattle.versions.proofs.Meets.{meets, passes, hypotheses, index, each}

unfoldable pub written_out : Type 0
unfolding computing bytes layout_a partitions_a segments_a among shown ask pair eq_z same meets passes hypotheses index each
written_out = Unit {0}
