-- What holds of two accepted tables and of what accepting them gave.
use Rattle.tables.specs.declared.Basis.{Basis}
use Rattle.tables.specs.Accept.{TableFacts}
use Rattle.versions.specs.Versions.{Table}

pub record BothFacts (older newer : Table) (b : Basis × Basis) : Type 0 where
  pub of_older : TableFacts older.layout older.partitions older.segments b.0
  pub of_newer : TableFacts newer.layout newer.partitions newer.segments b.1
