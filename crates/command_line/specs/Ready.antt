-- Two accepted tables, each with its basis: one thing to hand down, and not the many facts that it is made of.
use Rattle.rules.specs.declared.Layout.{Layout}
use Rattle.rules.specs.Partitions.{Partitions}
use Rattle.rules.specs.Segments.{Segments}
use Rattle.tables.specs.declared.Basis.{Basis}
use Rattle.tables.specs.Accept.{TableFacts}

pub data Ready (l : Layout) (p : Partitions) (g : Segments) (b : Basis) (l' : Layout) (p' : Partitions) (g' : Segments) (b' : Basis) : Type 0 where
  ready : TableFacts l p g b → TableFacts l' p' g' b' → Ready l p g b l' p' g' b'
