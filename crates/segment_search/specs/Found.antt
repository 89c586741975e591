-- The row that a search finds.
use Rattle.std.specs.Prelude.{ℕ, Some, None}
use Rattle.std.specs.Prelude.{Option as Row}
use Rattle.std.proofs.Math.Option.{Option, none, some}

abbrev pub found : Row ℕ → Option ℕ
found (Some i) = some i
found None = none
