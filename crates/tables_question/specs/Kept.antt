-- A table that a script keeps.
use Rattle.script_tables.specs.declared.Table.{Table}
use Rattle.versions.specs.Versions.{Table as Versioned}
use Rattle.succession_rules.specs.OfTwo.{table_of}

abbrev pub kept : Table → Versioned
kept table = table_of table.layout table.starts table.ends table.counts table.times table.rates
